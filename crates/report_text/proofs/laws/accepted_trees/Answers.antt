-- The law of accepted trees.
use Rattle.report_text.proofs.PublicLaws.{accepted_trees-fit}
use Rattle.report_text.proofs.laws.accepted_trees.Goals as goal

pub returns : goal.returns
returns c = record { fit = accepted_trees-fit }
