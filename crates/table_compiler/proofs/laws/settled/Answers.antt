use Rattle.table_compiler.proofs.PublicLaws.{settled-rows, settled-tables}
use Rattle.table_compiler.proofs.laws.settled.Goals as goal

pub returns-clause-rows : goal.returns-clause-rows
returns-clause-rows c = settled-rows

pub returns-clause-tables : goal.returns-clause-tables
returns-clause-tables c = settled-tables
