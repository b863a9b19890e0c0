use Rattle.interval_sets.proofs.Ends.{overlap_members}
use Rattle.interval_sets.proofs.interval.Interval.meet.Goals as goal

pub returns-clause-members : goal.returns-clause-members
returns-clause-members c =
    rw (c.later_low.ensures.value, c.earlier_high.ensures.value) (overlap_members c.args.self.now c.args.other.now)
