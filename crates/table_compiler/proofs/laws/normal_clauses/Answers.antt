use Rattle.table_compiler.proofs.PublicLaws.{normal_clauses-normal}
use Rattle.table_compiler.proofs.laws.normal_clauses.Goals as goal

pub returns : goal.returns
returns c = record { normal = normal_clauses-normal }
