-- The law of verdicts.
use Rattle.report_text.proofs.PublicLaws.{verdicts-back}
use Rattle.report_text.proofs.laws.verdicts.Goals as goal

pub returns : goal.returns
returns c = record { back = verdicts-back }
