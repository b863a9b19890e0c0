-- The law of trees.
use Rattle.report_text.proofs.PublicLaws.{trees-back}
use Rattle.report_text.proofs.laws.trees.Goals as goal

pub returns : goal.returns
returns c = record { back = trees-back }
