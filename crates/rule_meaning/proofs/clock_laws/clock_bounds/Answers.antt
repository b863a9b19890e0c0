-- The laws of the clock.
use Rattle.rule_meaning.proofs.PublicLaws.{clock_bounds-week_day, clock_bounds-clock_time}
use Rattle.rule_meaning.proofs.clock_laws.clock_bounds.Goals as goal

pub returns-clause-week_day : goal.returns-clause-week_day
returns-clause-week_day c = clock_bounds-week_day

pub returns-clause-clock_time : goal.returns-clause-clock_time
returns-clause-clock_time c = clock_bounds-clock_time
