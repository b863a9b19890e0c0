-- The laws of equality.
use Rattle.exact_fraction.proofs.PublicLaws.{equality-fraction, equality-moment, equality-relation}
use Rattle.exact_fraction.proofs.PublicLaws.{equality-fault}
use Rattle.exact_fraction.proofs.laws.equality.Goals as goal

pub returns-clause-fraction : goal.returns-clause-fraction
returns-clause-fraction c = equality-fraction

pub returns-clause-moment : goal.returns-clause-moment
returns-clause-moment c = equality-moment

pub returns-clause-relation : goal.returns-clause-relation
returns-clause-relation c = equality-relation

pub returns-clause-fault : goal.returns-clause-fault
returns-clause-fault c = equality-fault
