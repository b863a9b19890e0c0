-- The law of questions.
use Rattle.report_text.proofs.PublicLaws.{questions-back}
use Rattle.report_text.proofs.laws.questions.Goals as goal

pub returns : goal.returns
returns c = record { back = questions-back }
