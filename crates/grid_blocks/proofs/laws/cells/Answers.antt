-- The laws `cells`.
use Rattle.grid_blocks.proofs.PublicLaws.{cells-all}
use Rattle.grid_blocks.proofs.PublicLaws.{cells-number}
use Rattle.grid_blocks.proofs.laws.cells.Goals as goal

pub returns-clause-all : goal.returns-clause-all
returns-clause-all c = cells-all

pub returns-clause-number : goal.returns-clause-number
returns-clause-number c = cells-number
