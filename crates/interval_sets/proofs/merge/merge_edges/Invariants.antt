use Rattle.std.proofs.Common.{◌+◌, length}
use Rattle.interval_sets.proofs.Merging.{Merging}
use Rattle.interval_sets.proofs.merge.merge_edges.Given as goal

abbrev pub invariant-merging : goal.invariant-merging
invariant-merging l = Merging l.how l.fn.left l.fn.right l.left l.right l.in_left l.in_right l.edges.items

abbrev pub decreases-merging : goal.decreases-merging
decreases-merging l = length l.left + length l.right
