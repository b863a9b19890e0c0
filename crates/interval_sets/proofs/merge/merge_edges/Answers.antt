use Rattle.std.proofs.Common.{sym}
use Rattle.interval_sets.proofs.Merging.{merging_start, merging_step, merging_end, merging_shorter, step_facts}
use Rattle.interval_sets.proofs.merge.merge_edges.Goals as goal

pub merging-init : goal.merging-init
merging-init c =
    rw c.new-edges.ensures.items
    (merging_start c.args.how c.args.left.now c.args.right.now c.requires.left_rises c.requires.right_rises c.requires.left_held c.requires.right_held)

pub merging-smaller : goal.merging-smaller
merging-smaller c =
    rw (c.rest_after-left.ensures.value, c.rest_after-right.ensures.value)
    (merging_shorter c.merging.left.now c.merging.right.now c.in-Some.step
    (step_facts c.merging.left.now c.merging.right.now c.merging.invariant.left_rises c.merging.invariant.right_rises c.merging.invariant.left_held c.merging.invariant.right_held c.in-Some.step (sym c.in-Some.ensures.value)))

pub merging-preserved : goal.merging-preserved
merging-preserved c =
    rw (c.in_ok-push_where.ensures.items, c.differs-changes.ensures.value, c.holds-was_inside.ensures.value, c.holds.ensures.value, c.differs-in_left.ensures.value, c.differs-in_right.ensures.value, c.rest_after-left.ensures.value, c.rest_after-right.ensures.value)
    (merging_step c.args.how c.args.left.now c.args.right.now c.merging.left.now c.merging.right.now c.merging.in_left c.merging.in_right c.merging.edges.items c.in-Some.step c.merging.invariant (sym c.in-Some.ensures.value))

pub returns : goal.returns
returns c = record {
  combination = merging_end c.args.how c.args.left.now c.args.right.now c.merging.left.now c.merging.right.now c.merging.in_left c.merging.in_right c.merging.edges.items c.requires.left_held c.requires.right_held c.merging.invariant (sym c.in_default.ensures.value);
}
