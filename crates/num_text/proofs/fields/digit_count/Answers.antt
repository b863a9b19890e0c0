use Rattle.std.proofs.Common.{arith, sym, ◌∙◌, length}
use Rattle.num_text.proofs.Digits.{no_digit, all_digits, with_one, ends_at}
use Rattle.num_text.proofs.fields.digit_count.Goals as goal

pub returns-then-not-is_ascii_digit-clause-digits : goal.returns-then-not-is_ascii_digit-clause-digits
returns-then-not-is_ascii_digit-clause-digits c =
    let stop = no_digit c.args.text.now c.loop-i.i (omega arith) (sym c.is_ascii_digit.ensures.value ∙ c.if-not-is_ascii_digit.true) in
    sym stop.digits ∙ c.loop-i.invariant.0

pub returns-then-not-is_ascii_digit-clause-rest : goal.returns-then-not-is_ascii_digit-clause-rest
returns-then-not-is_ascii_digit-clause-rest c =
    let stop = no_digit c.args.text.now c.loop-i.i (omega arith) (sym c.is_ascii_digit.ensures.value ∙ c.if-not-is_ascii_digit.true) in
    sym stop.rest ∙ c.loop-i.invariant.1

pub loop-i-preserved : goal.loop-i-preserved
loop-i-preserved c =
    let more = with_one c.args.text.now c.loop-i.i (omega arith) (sym c.is_ascii_digit.ensures.value ∙ c.if-not-is_ascii_digit.false) in
    (more.digits ∙ c.loop-i.invariant.0, more.rest ∙ c.loop-i.invariant.1)

pub returns-clause-digits : goal.returns-clause-digits
returns-clause-digits c =
    let stop = all_digits c.args.text.now c.loop-i.i c.loop-i-test.false in
    let known = sym stop.digits ∙ c.loop-i.invariant.0 in
    rw (← (ends_at c.loop-i.i (length c.args.text.now) (omega arith) (omega arith))) known

pub returns-clause-rest : goal.returns-clause-rest
returns-clause-rest c =
    let stop = all_digits c.args.text.now c.loop-i.i c.loop-i-test.false in
    let known = sym stop.rest ∙ c.loop-i.invariant.1 in
    rw (← (ends_at c.loop-i.i (length c.args.text.now) (omega arith) (omega arith))) known
