use Rattle.std.proofs.Common.{◌*◌, suc}
use Rattle.report_lines.proofs.tree.+tree.Given as goal

abbrev pub decreases-read_tree : goal.decreases-read_tree
decreases-read_tree l = l.levels * 2

abbrev pub decreases-read_split : goal.decreases-read_split
decreases-read_split l = suc (l.levels * 2)

abbrev pub decreases-read_before : goal.decreases-read_before
decreases-read_before l = suc (l.levels * 2)
