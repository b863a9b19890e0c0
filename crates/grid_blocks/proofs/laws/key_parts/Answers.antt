-- The laws `key_parts`.
use Rattle.grid_blocks.proofs.PublicLaws.{key_parts-piece}
use Rattle.grid_blocks.proofs.PublicLaws.{key_parts-split}
use Rattle.grid_blocks.proofs.PublicLaws.{key_parts-below}
use Rattle.grid_blocks.proofs.PublicLaws.{key_parts-point}
use Rattle.grid_blocks.proofs.PublicLaws.{key_parts-above}
use Rattle.grid_blocks.proofs.laws.key_parts.Goals as goal

pub returns-clause-piece : goal.returns-clause-piece
returns-clause-piece c = key_parts-piece

pub returns-clause-split : goal.returns-clause-split
returns-clause-split c = key_parts-split

pub returns-clause-below : goal.returns-clause-below
returns-clause-below c = key_parts-below

pub returns-clause-point : goal.returns-clause-point
returns-clause-point c = key_parts-point

pub returns-clause-above : goal.returns-clause-above
returns-clause-above c = key_parts-above
