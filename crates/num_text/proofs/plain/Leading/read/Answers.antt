use Rattle.std.proofs.Common.{arith, sym, ap, ◌∙◌, ◌+◌, ◌-◌, ◌*◌, length, get_or}
use Rattle.std.proofs.lemmas.List.{take_rest}
use Rattle.std.specs.Str.Parse.{digits_value_after}
use Rattle.num_text.proofs.Digits.{no_digit, all_digits, with_one, ends_at}
use Rattle.num_text.proofs.PlainDecimals.{after-next}
use Rattle.num_text.proofs.plain.Leading.read.Goals as goal

pub returns-then-not-is_ascii_digit-clause-number : goal.returns-then-not-is_ascii_digit-clause-number
returns-then-not-is_ascii_digit-clause-number c =
    let stop = no_digit c.args.text.now c.loop-i.i (omega arith) (sym c.is_ascii_digit.ensures.value ∙ c.if-not-is_ascii_digit.true) in
    c.loop-i.invariant.2 ∙ ap (λ digits. digits_value_after 10 c.args.front digits) (sym stop.digits ∙ c.loop-i.invariant.0)

pub returns-then-not-is_ascii_digit-clause-rest : goal.returns-then-not-is_ascii_digit-clause-rest
returns-then-not-is_ascii_digit-clause-rest c =
    let stop = no_digit c.args.text.now c.loop-i.i (omega arith) (sym c.is_ascii_digit.ensures.value ∙ c.if-not-is_ascii_digit.true) in
    take_rest c.args.text.now c.loop-i.i ∙ sym stop.rest ∙ c.loop-i.invariant.1

pub loop-i-preserved : goal.loop-i-preserved
loop-i-preserved c =
    let digit = sym c.is_ascii_digit.ensures.value ∙ c.if-not-is_ascii_digit.false in
    let more = with_one c.args.text.now c.loop-i.i (omega arith) digit in
    let number = after-next c.args.front c.args.text.now c.loop-i.i (omega arith) digit in
    (more.digits ∙ c.loop-i.invariant.0, more.rest ∙ c.loop-i.invariant.1, c.in_ok-number.ensures.value ∙ ap (λ n. n * 10 + (get_or c.args.text.now c.loop-i.i 0 - 48)) c.loop-i.invariant.2 ∙ sym number)

pub returns-clause-number : goal.returns-clause-number
returns-clause-number c =
    let stop = all_digits c.args.text.now c.loop-i.i c.loop-i-test.false in
    c.loop-i.invariant.2 ∙ ap (λ digits. digits_value_after 10 c.args.front digits) (sym stop.digits ∙ c.loop-i.invariant.0)

pub returns-clause-rest : goal.returns-clause-rest
returns-clause-rest c =
    let stop = all_digits c.args.text.now c.loop-i.i c.loop-i-test.false in
    let known = sym stop.rest ∙ c.loop-i.invariant.1 in
    take_rest c.args.text.now (length c.args.text.now) ∙ rw (← (ends_at c.loop-i.i (length c.args.text.now) (omega arith) (omega arith))) known
