-- The laws `runs`.
use Rattle.grid_blocks.proofs.PublicLaws.{runs-below}
use Rattle.grid_blocks.proofs.PublicLaws.{runs-point}
use Rattle.grid_blocks.proofs.PublicLaws.{runs-above}
use Rattle.grid_blocks.proofs.PublicLaws.{runs-members}
use Rattle.grid_blocks.proofs.PublicLaws.{runs-split}
use Rattle.grid_blocks.proofs.PublicLaws.{runs-inside}
use Rattle.grid_blocks.proofs.laws.runs.Goals as goal

pub returns-clause-below : goal.returns-clause-below
returns-clause-below c = runs-below

pub returns-clause-point : goal.returns-clause-point
returns-clause-point c = runs-point

pub returns-clause-above : goal.returns-clause-above
returns-clause-above c = runs-above

pub returns-clause-members : goal.returns-clause-members
returns-clause-members c = runs-members

pub returns-clause-split : goal.returns-clause-split
returns-clause-split c = runs-split

pub returns-clause-inside : goal.returns-clause-inside
returns-clause-inside c = runs-inside
