use Rattle.block_search.specs.Blocks.{size}
use Rattle.block_search.proofs.open_cell.+first_open.Given as goal

abbrev pub decreases-first_open : goal.decreases-first_open
decreases-first_open g l = size l.block.now
