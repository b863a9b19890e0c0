use Rattle.std.proofs.Common.{arith}
use Rattle.std.proofs.lemmas.List.{take_all}
use Rattle.num_text.proofs.Digits.{digits_value-more, digits_value-power}
use Rattle.num_text.proofs.fields.number_of.Goals as goal

pub overflow_mul-number : goal.overflow_mul-number
overflow_mul-number c =
    let known = c.loop-digit.invariant in
    let more = digits_value-more c.args.digits.now c.loop-digit.digit-index (omega arith) c.requires.few c.requires.digits_alone in
    omega arith

pub overflow_add-number : goal.overflow_add-number
overflow_add-number c =
    let known = c.loop-digit.invariant in
    let more = digits_value-more c.args.digits.now c.loop-digit.digit-index (omega arith) c.requires.few c.requires.digits_alone in
    omega arith

pub loop-digit-preserved : goal.loop-digit-preserved
loop-digit-preserved c =
    let known = c.loop-digit.invariant in
    let more = digits_value-more c.args.digits.now c.loop-digit.digit-index (omega arith) c.requires.few c.requires.digits_alone in
    omega arith

pub returns-clause-bound : goal.returns-clause-bound
returns-clause-bound c =
    let all = take_all c.loop-digit.digit-index c.args.digits.now c.loop-digit-test.false in
    let number = rw all at c.loop-digit.invariant in
    let bound = digits_value-power c.args.digits.now c.requires.digits_alone in
    omega arith
