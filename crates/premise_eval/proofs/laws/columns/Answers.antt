use Rattle.premise_eval.proofs.PublicLaws.{columns-made, columns-asked}
use Rattle.premise_eval.proofs.laws.columns.Goals as goal

pub returns-clause-made : goal.returns-clause-made
returns-clause-made c = columns-made

pub returns-clause-asked : goal.returns-clause-asked
returns-clause-asked c = columns-asked
