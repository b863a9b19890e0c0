-- The laws of blocks.
use Rattle.grid_trees.proofs.PublicLaws.{blocks-some, blocks-within}
use Rattle.grid_trees.proofs.laws.blocks.Goals as goal

pub returns-clause-within : goal.returns-clause-within
returns-clause-within c = blocks-within

pub returns-clause-some : goal.returns-clause-some
returns-clause-some c = blocks-some
