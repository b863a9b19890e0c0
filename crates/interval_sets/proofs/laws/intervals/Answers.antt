use Rattle.interval_sets.proofs.PublicLaws.{intervals-inside, intervals-convex, intervals-point, intervals-overlap, intervals-hull_left, intervals-hull_right, intervals-hull_least, intervals-hull_joined}
use Rattle.interval_sets.proofs.laws.intervals.Goals as goal

pub returns-clause-inside : goal.returns-clause-inside
returns-clause-inside c = intervals-inside

pub returns-clause-convex : goal.returns-clause-convex
returns-clause-convex c = intervals-convex

pub returns-clause-point : goal.returns-clause-point
returns-clause-point c = intervals-point

pub returns-clause-overlap : goal.returns-clause-overlap
returns-clause-overlap c = intervals-overlap

pub returns-clause-hull_left : goal.returns-clause-hull_left
returns-clause-hull_left c = intervals-hull_left

pub returns-clause-hull_right : goal.returns-clause-hull_right
returns-clause-hull_right c = intervals-hull_right

pub returns-clause-hull_least : goal.returns-clause-hull_least
returns-clause-hull_least c = intervals-hull_least

pub returns-clause-hull_joined : goal.returns-clause-hull_joined
returns-clause-hull_joined c = intervals-hull_joined
