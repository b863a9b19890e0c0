use Rattle.std.proofs.Common.{◌≡◌, ◌++◌}
use Rattle.report_lines.proofs.key_set.KeySet.list.Given as goal

abbrev pub invariant-loop-key : goal.invariant-loop-key
invariant-loop-key l = l.list ++ l.key-iterator ≡ l.self
