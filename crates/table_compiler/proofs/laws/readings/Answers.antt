use Rattle.table_compiler.proofs.PublicLaws.{readings-agree, readings-read, readings-reading, readings-memory}
use Rattle.table_compiler.proofs.laws.readings.Goals as goal

pub returns-clause-agree : goal.returns-clause-agree
returns-clause-agree c = readings-agree

pub returns-clause-read : goal.returns-clause-read
returns-clause-read c = readings-read

pub returns-clause-reading : goal.returns-clause-reading
returns-clause-reading c = readings-reading

pub returns-clause-memory : goal.returns-clause-memory
returns-clause-memory c = readings-memory
