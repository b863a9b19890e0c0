use Rattle.std.proofs.Common.{◌≡◌, map, take}
use Rattle.block_search.specs.Blocks.{one_piece}
use Rattle.verdict_search.proofs.grid_cells.block_of.Given as goal

abbrev pub invariant-loop-piece : goal.invariant-loop-piece
invariant-loop-piece l = l.block.items ≡ map one_piece (take l.piece-index l.cell)
