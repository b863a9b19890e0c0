-- The laws `bounds`.
use Rattle.grid_blocks.proofs.PublicLaws.{bounds-key}
use Rattle.grid_blocks.proofs.PublicLaws.{bounds-moments}
use Rattle.grid_blocks.proofs.laws.bounds.Goals as goal

pub returns-clause-key : goal.returns-clause-key
returns-clause-key c = bounds-key

pub returns-clause-moments : goal.returns-clause-moments
returns-clause-moments c = bounds-moments
