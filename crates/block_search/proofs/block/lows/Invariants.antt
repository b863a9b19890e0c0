use Rattle.std.proofs.Common.{◌≡◌, map, take}
use Rattle.block_search.specs.Blocks.{low_of}
use Rattle.block_search.proofs.block.lows.Given as goal

abbrev pub invariant-loop-span : goal.invariant-loop-span
invariant-loop-span l = l.cell.items ≡ map low_of (take l.span-index l.block)
