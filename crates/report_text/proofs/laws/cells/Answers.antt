-- The law of cells.
use Rattle.report_text.proofs.PublicLaws.{cells-back}
use Rattle.report_text.proofs.laws.cells.Goals as goal

pub returns : goal.returns
returns c = record { back = cells-back }
