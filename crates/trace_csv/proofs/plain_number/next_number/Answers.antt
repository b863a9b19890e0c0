use Rattle.std.proofs.Common.{arith}
use Rattle.trace_csv.proofs.PlainNumbers.{at_end, before_comma}
use Rattle.trace_csv.proofs.plain_number.next_number.Goals as goal

pub returns-then-head-text-clause-cut : goal.returns-then-head-text-clause-cut
returns-then-head-text-clause-cut c =
    (at_end c.args.text.now c.in_ok-head.head.end c.in_ok-head.head.number (omega arith) c.in_ok-head.ensures.parts c.in_ok-head.ensures.number).cut

pub returns-then-head-text-clause-plain : goal.returns-then-head-text-clause-plain
returns-then-head-text-clause-plain c =
    (at_end c.args.text.now c.in_ok-head.head.end c.in_ok-head.head.number (omega arith) c.in_ok-head.ensures.parts c.in_ok-head.ensures.number).plain

pub returns-then-head-text-clause-input : goal.returns-then-head-text-clause-input
returns-then-head-text-clause-input c =
    (at_end c.args.text.now c.in_ok-head.head.end c.in_ok-head.head.number (omega arith) c.in_ok-head.ensures.parts c.in_ok-head.ensures.number).input

pub returns-clause-cut : goal.returns-clause-cut
returns-clause-cut c =
    (before_comma c.args.text.now c.in_ok-head.head.end c.in_ok-head.head.number (omega (arith, c.in_ok-head.ensures.within, c.if-head-text.false)) c.in_ok-head.ensures.parts c.in_ok-head.ensures.number c.if-text-head-ne44.false).cut

pub returns-clause-plain : goal.returns-clause-plain
returns-clause-plain c =
    (before_comma c.args.text.now c.in_ok-head.head.end c.in_ok-head.head.number (omega (arith, c.in_ok-head.ensures.within, c.if-head-text.false)) c.in_ok-head.ensures.parts c.in_ok-head.ensures.number c.if-text-head-ne44.false).plain

pub returns-clause-input : goal.returns-clause-input
returns-clause-input c =
    (before_comma c.args.text.now c.in_ok-head.head.end c.in_ok-head.head.number (omega (arith, c.in_ok-head.ensures.within, c.if-head-text.false)) c.in_ok-head.ensures.parts c.in_ok-head.ensures.number c.if-text-head-ne44.false).input
