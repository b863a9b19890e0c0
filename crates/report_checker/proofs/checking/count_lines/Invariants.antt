use Rattle.std.proofs.Common.{◌≤◌, length}
use Rattle.report_checker.proofs.checking.count_lines.Given as goal

abbrev pub invariant-loop-at : goal.invariant-loop-at
invariant-loop-at l = l.at ≤ length l.lines
