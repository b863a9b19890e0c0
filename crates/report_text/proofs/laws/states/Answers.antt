-- The law of states.
use Rattle.report_text.proofs.PublicLaws.{states-back}
use Rattle.report_text.proofs.laws.states.Goals as goal

pub returns : goal.returns
returns c = record { back = states-back }
