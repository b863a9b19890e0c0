use Rattle.grid_events.proofs.PublicLaws.{grids-cell, grids-tracked, grids-state}
use Rattle.grid_events.proofs.laws.grids.Goals as goal

pub returns-clause-cell : goal.returns-clause-cell
returns-clause-cell c = grids-cell

pub returns-clause-tracked : goal.returns-clause-tracked
returns-clause-tracked c = grids-tracked

pub returns-clause-state : goal.returns-clause-state
returns-clause-state c = grids-state
