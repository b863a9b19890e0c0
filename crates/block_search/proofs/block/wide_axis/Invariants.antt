use Rattle.std.proofs.Common.{◌≡◌, drop}
use Rattle.block_search.specs.Blocks.{wide_from}
use Rattle.block_search.proofs.block.wide_axis.Given as goal

abbrev pub invariant-loop-axis : goal.invariant-loop-axis
invariant-loop-axis l = wide_from 0 l.block ≡ wide_from l.axis (drop l.axis l.block)
