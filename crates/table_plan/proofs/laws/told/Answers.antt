use Rattle.table_plan.proofs.PublicLaws.{told-ordered}
use Rattle.table_plan.proofs.laws.told.Goals as goal

pub returns : goal.returns
returns c = record { ordered = told-ordered }
