use Rattle.interval_sets.proofs.Convex.{none_lies}
use Rattle.interval_sets.proofs.interval.Interval.is_empty.Goals as goal

pub returns-clause-none : goal.returns-clause-none
returns-clause-none c = rw c.has_member.ensures.value (none_lies c.args.self.now)
