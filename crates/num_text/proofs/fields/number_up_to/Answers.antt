use Rattle.std.proofs.Common.{◌+◌, arith}
use Rattle.std.proofs.lemmas.Bool.Decides.{nat_tests}
use Rattle.std.proofs.lemmas.Str.Parse.{digits_value-take-le}
use Rattle.num_text.proofs.Digits.{digits_value-next}
use Rattle.num_text.proofs.fields.number_up_to.Goals as goal

pub returns-then-number-most : goal.returns-then-number-most
returns-then-number-most c =
    let known = c.loop-digit.invariant in
    let more = digits_value-next c.args.digits.now c.loop-digit.digit-index (omega arith) c.requires.digits_alone in
    let whole = digits_value-take-le 10 c.args.digits.now (c.loop-digit.digit-index + 1) (omega arith) in
    record { value = grind (arith, nat_tests) }

pub loop-digit-preserved : goal.loop-digit-preserved
loop-digit-preserved c =
    let known = c.loop-digit.invariant in
    let more = digits_value-next c.args.digits.now c.loop-digit.digit-index (omega arith) c.requires.digits_alone in
    (omega arith, omega arith)
