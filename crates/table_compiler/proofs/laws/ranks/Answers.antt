use Rattle.table_compiler.proofs.PublicLaws.{ranks-places, ranks-order}
use Rattle.table_compiler.proofs.laws.ranks.Goals as goal

pub returns-clause-places : goal.returns-clause-places
returns-clause-places c = ranks-places

pub returns-clause-order : goal.returns-clause-order
returns-clause-order c = ranks-order
