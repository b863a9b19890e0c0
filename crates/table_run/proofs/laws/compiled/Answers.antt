use Rattle.table_run.proofs.PublicLaws.{compiled-serve, compiled-settle}
use Rattle.table_run.proofs.laws.compiled.Goals as goal

pub returns-clause-serve : goal.returns-clause-serve
returns-clause-serve c = compiled-serve

pub returns-clause-settle : goal.returns-clause-settle
returns-clause-settle c = compiled-settle
