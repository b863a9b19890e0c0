use Rattle.replay_text.proofs.PublicLaws.{printing-rows, printing-first}
use Rattle.replay_text.proofs.laws.printing.Goals as goal

pub returns : goal.returns
returns c = record { rows = printing-rows; first = printing-first }
