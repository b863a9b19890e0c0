use Rattle.cell_truths.proofs.PublicLaws.{cells-decided, cells-inside}
use Rattle.cell_truths.proofs.laws.cells.Goals as goal

pub returns-clause-decided : goal.returns-clause-decided
returns-clause-decided c = cells-decided

pub returns-clause-inside : goal.returns-clause-inside
returns-clause-inside c = cells-inside
