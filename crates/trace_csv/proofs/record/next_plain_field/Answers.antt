use Rattle.std.proofs.Common.{get_or, arith}
use Rattle.trace_csv.proofs.PlainFields.{cut_first, cut_last, plain_first, is_comma_by}
use Rattle.trace_csv.proofs.record.next_plain_field.Goals as goal

pub returns-then-branch-eq1-clause-cut : goal.returns-then-branch-eq1-clause-cut
returns-then-branch-eq1-clause-cut c =
    cut_first c.args.text.now c.loop-at.at c.loop-at-test.true c.loop-at.invariant.others
    (is_comma_by (get_or c.args.text.now c.loop-at.at 0) _ c.in_ok-commas_in.ensures.count c.if-branch-eq1.true)

pub returns-then-branch-eq1-clause-plain : goal.returns-then-branch-eq1-clause-plain
returns-then-branch-eq1-clause-plain c =
    plain_first c.args.text.now c.loop-at.at c.loop-at-test.true c.loop-at.invariant.plain c.in_ok-commas_in.ensures.plain

pub returns-clause-cut : goal.returns-clause-cut
returns-clause-cut c = cut_last c.args.text.now c.loop-at.at (omega (arith, c.loop-at-test.false)) c.loop-at.invariant.others
