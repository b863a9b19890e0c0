use Rattle.cell_truths.proofs.PublicLaws.{questions-no_stop}
use Rattle.cell_truths.proofs.laws.questions.Goals as goal

pub returns : goal.returns
returns c = record { no_stop = questions-no_stop }
