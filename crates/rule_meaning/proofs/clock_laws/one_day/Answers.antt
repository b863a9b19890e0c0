-- The laws of the clock.
use Rattle.rule_meaning.proofs.PublicLaws.{one_day-date, one_day-month, one_day-week_day}
use Rattle.rule_meaning.proofs.PublicLaws.{one_day-year_day}
use Rattle.rule_meaning.proofs.clock_laws.one_day.Goals as goal

pub returns-clause-date : goal.returns-clause-date
returns-clause-date c = one_day-date

pub returns-clause-month : goal.returns-clause-month
returns-clause-month c = one_day-month

pub returns-clause-week_day : goal.returns-clause-week_day
returns-clause-week_day c = one_day-week_day

pub returns-clause-year_day : goal.returns-clause-year_day
returns-clause-year_day c = one_day-year_day
