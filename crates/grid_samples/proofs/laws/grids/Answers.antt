use Rattle.grid_samples.proofs.PublicLaws.{grids-cells, grids-states}
use Rattle.grid_samples.proofs.laws.grids.Goals as goal

pub returns-clause-cells : goal.returns-clause-cells
returns-clause-cells c = grids-cells

pub returns-clause-states : goal.returns-clause-states
returns-clause-states c = grids-states
