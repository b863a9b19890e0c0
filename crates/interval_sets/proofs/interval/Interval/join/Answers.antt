use Rattle.interval_sets.proofs.Ends.{hull_left, hull_right}
use Rattle.interval_sets.proofs.interval.Interval.join.Goals as goal

pub returns-clause-holds_self : goal.returns-clause-holds_self
returns-clause-holds_self c =
    rw (c.earlier_low.ensures.value, c.later_high.ensures.value) (hull_left c.args.self.now c.args.other.now)

pub returns-clause-holds_other : goal.returns-clause-holds_other
returns-clause-holds_other c =
    rw (c.earlier_low.ensures.value, c.later_high.ensures.value) (hull_right c.args.self.now c.args.other.now)
