-- The laws of the clock.
use Rattle.rule_meaning.proofs.PublicLaws.{clock_order-hours, clock_order-hours_below}
use Rattle.rule_meaning.proofs.PublicLaws.{clock_order-time, clock_order-date}
use Rattle.rule_meaning.proofs.PublicLaws.{clock_order-clock_time}
use Rattle.rule_meaning.proofs.clock_laws.clock_order.Goals as goal

pub returns-clause-hours : goal.returns-clause-hours
returns-clause-hours c = clock_order-hours

pub returns-clause-hours_below : goal.returns-clause-hours_below
returns-clause-hours_below c = clock_order-hours_below

pub returns-clause-time : goal.returns-clause-time
returns-clause-time c = clock_order-time

pub returns-clause-date : goal.returns-clause-date
returns-clause-date c = clock_order-date

pub returns-clause-clock_time : goal.returns-clause-clock_time
returns-clause-clock_time c = clock_order-clock_time
