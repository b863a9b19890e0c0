-- The laws `keys`.
use Rattle.grid_blocks.proofs.PublicLaws.{keys-piece}
use Rattle.grid_blocks.proofs.PublicLaws.{keys-with_run}
use Rattle.grid_blocks.proofs.laws.keys.Goals as goal

pub returns-clause-piece : goal.returns-clause-piece
returns-clause-piece c = keys-piece

pub returns-clause-with_run : goal.returns-clause-with_run
returns-clause-with_run c = keys-with_run
