-- The laws of equality.
use Rattle.interval_sets.proofs.PublicLaws.{equality-bound, equality-interval}
use Rattle.interval_sets.proofs.laws.equality.Goals as goal

pub returns-clause-bound : goal.returns-clause-bound
returns-clause-bound c = equality-bound

pub returns-clause-interval : goal.returns-clause-interval
returns-clause-interval c = equality-interval
