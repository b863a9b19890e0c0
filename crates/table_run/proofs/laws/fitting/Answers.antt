use Rattle.table_run.proofs.PublicLaws.{fitting-acts}
use Rattle.table_run.proofs.laws.fitting.Goals as goal

pub returns : goal.returns
returns c = record { acts = fitting-acts }
