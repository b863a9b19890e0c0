use Rattle.interval_sets.proofs.PublicLaws.{cuts-rising, cuts-one, cuts-next}
use Rattle.interval_sets.proofs.laws.cuts.Goals as goal

pub returns-clause-rising : goal.returns-clause-rising
returns-clause-rising c = cuts-rising

pub returns-clause-one : goal.returns-clause-one
returns-clause-one c = cuts-one

pub returns-clause-next : goal.returns-clause-next
returns-clause-next c = cuts-next
