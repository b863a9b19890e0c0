use Rattle.std.proofs.Common.{◌≡◌, ◌++◌, map}
use Rattle.range_lines.specs.Lines.{range_of}
use Rattle.range_lines.proofs.key_ranges.KeyRanges.list.Given as goal

abbrev pub invariant-loop-key : goal.invariant-loop-key
invariant-loop-key l = l.list ++ map range_of l.key-iterator ≡ map range_of l.self
