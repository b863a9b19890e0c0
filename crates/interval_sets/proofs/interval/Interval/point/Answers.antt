use Rattle.std.proofs.Common.{sym}
use Rattle.interval_sets.proofs.OfRelation.{same_tests}
use Rattle.interval_sets.proofs.interval.Interval.point.Goals as goal

pub returns-clause-members : goal.returns-clause-members
returns-clause-members c = λ q. sym (same_tests q c.args.x)
