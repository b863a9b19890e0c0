-- Between which numbers the clock lies.
use Rattle.clock_values.proofs.PublicLaws.{clock_hulls-month}
use Rattle.clock_values.proofs.PublicLaws.{clock_hulls-week_day}
use Rattle.clock_values.proofs.PublicLaws.{clock_hulls-year_day}
use Rattle.clock_values.proofs.PublicLaws.{clock_hulls-time}
use Rattle.clock_values.proofs.PublicLaws.{clock_hulls-one_day}
use Rattle.clock_values.proofs.laws.clock_hulls.Goals as goal

pub returns-clause-month : goal.returns-clause-month
returns-clause-month c = clock_hulls-month

pub returns-clause-week_day : goal.returns-clause-week_day
returns-clause-week_day c = clock_hulls-week_day

pub returns-clause-year_day : goal.returns-clause-year_day
returns-clause-year_day c = clock_hulls-year_day

pub returns-clause-time : goal.returns-clause-time
returns-clause-time c = clock_hulls-time

pub returns-clause-one_day : goal.returns-clause-one_day
returns-clause-one_day c = clock_hulls-one_day
