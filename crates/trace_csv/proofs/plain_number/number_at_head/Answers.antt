use Rattle.std.proofs.Common.{refl, arith, take}
use Rattle.trace_csv.proofs.PlainNumbers.{digit_parts, whole_number, point_parts, point_number}
use Rattle.trace_csv.proofs.plain_number.number_at_head.Goals as goal

pub returns-then-whole-text-clause-parts : goal.returns-then-whole-text-clause-parts
returns-then-whole-text-clause-parts c = digit_parts (take c.in_ok-whole.whole.count c.args.text.now) c.in_ok-whole.ensures.alone

pub returns-then-whole-text-clause-number : goal.returns-then-whole-text-clause-number
returns-then-whole-text-clause-number c =
    whole_number c.args.text.now c.in_ok-whole.whole.count c.in_ok-whole.whole.number c.in_ok-number.number c.in_ok-whole.ensures.within
    c.in_ok-whole.ensures.alone (omega (arith, c.if-whole-eq0.false)) c.in_ok-whole.ensures.value c.in_ok-whole.ensures.small
    c.in_ok-number.ensures.value

pub returns-then-text-whole-ne46-clause-parts : goal.returns-then-text-whole-ne46-clause-parts
returns-then-text-whole-ne46-clause-parts c = digit_parts (take c.in_ok-whole.whole.count c.args.text.now) c.in_ok-whole.ensures.alone

pub returns-then-text-whole-ne46-clause-number : goal.returns-then-text-whole-ne46-clause-number
returns-then-text-whole-ne46-clause-number c =
    whole_number c.args.text.now c.in_ok-whole.whole.count c.in_ok-whole.whole.number c.in_ok-number-2.number c.in_ok-whole.ensures.within
    c.in_ok-whole.ensures.alone (omega (arith, c.if-whole-eq0.false)) c.in_ok-whole.ensures.value c.in_ok-whole.ensures.small
    c.in_ok-number-2.ensures.value

pub returns-clause-parts : goal.returns-clause-parts
returns-clause-parts c =
    point_parts c.args.text.now _ c.in_ok-whole.whole.count c.in_ok-behind.behind.count (omega (arith, c.in_ok-whole.ensures.within, c.if-whole-text.false)) c.if-text-whole-ne46.false refl
    c.in_ok-whole.ensures.alone c.in_ok-behind.ensures.alone

pub returns-clause-number : goal.returns-clause-number
returns-clause-number c =
    point_number c.args.text.now _ c.in_ok-whole.whole.count c.in_ok-behind.behind.count c.in_ok-whole.whole.number c.in_ok-behind.behind.number
    c.in_ok-number-3.number (omega (arith, c.in_ok-whole.ensures.within, c.if-whole-text.false)) c.if-text-whole-ne46.false refl (omega (arith, c.if-whole-eq0.false)) c.in_ok-behind.ensures.within
    c.in_ok-whole.ensures.alone c.in_ok-behind.ensures.alone c.in_ok-whole.ensures.value c.in_ok-behind.ensures.value
    c.in_ok-behind.ensures.small c.in_ok-number-3.ensures.few c.in_ok-number-3.ensures.value
