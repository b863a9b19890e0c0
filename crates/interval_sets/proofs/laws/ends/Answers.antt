use Rattle.interval_sets.proofs.PublicLaws.{ends-above, ends-below, ends-earlier_low, ends-later_low, ends-earlier_high, ends-later_high}
use Rattle.interval_sets.proofs.laws.ends.Goals as goal

pub returns-clause-above : goal.returns-clause-above
returns-clause-above c = ends-above

pub returns-clause-below : goal.returns-clause-below
returns-clause-below c = ends-below

pub returns-clause-earlier_low : goal.returns-clause-earlier_low
returns-clause-earlier_low c = ends-earlier_low

pub returns-clause-later_low : goal.returns-clause-later_low
returns-clause-later_low c = ends-later_low

pub returns-clause-earlier_high : goal.returns-clause-earlier_high
returns-clause-earlier_high c = ends-earlier_high

pub returns-clause-later_high : goal.returns-clause-later_high
returns-clause-later_high c = ends-later_high
