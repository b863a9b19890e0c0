use Rattle.grid_events.proofs.PublicLaws.{blocks-cells, blocks-covers, blocks-whole, blocks-found}
use Rattle.grid_events.proofs.laws.blocks.Goals as goal

pub returns-clause-cells : goal.returns-clause-cells
returns-clause-cells c = blocks-cells

pub returns-clause-covers : goal.returns-clause-covers
returns-clause-covers c = blocks-covers

pub returns-clause-whole : goal.returns-clause-whole
returns-clause-whole c = blocks-whole

pub returns-clause-found : goal.returns-clause-found
returns-clause-found c = blocks-found
