-- The laws of the verdicts of plain questions.
use Rattle.plain_questions.proofs.PublicLaws.{verdicts-decided, verdicts-open_cell}
use Rattle.plain_questions.proofs.laws.verdicts.Goals as goal

pub returns-clause-open_cell : goal.returns-clause-open_cell
returns-clause-open_cell c = verdicts-open_cell

pub returns-clause-decided : goal.returns-clause-decided
returns-clause-decided c = verdicts-decided
