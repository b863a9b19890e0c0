use Rattle.block_search.specs.Blocks.{size}
use Rattle.block_search.proofs.search.+search_block.Given as goal

abbrev pub decreases-search_block : goal.decreases-search_block
decreases-search_block g l = size l.block.now
