-- The laws of the clock.
use Rattle.rule_meaning.proofs.PublicLaws.{day_seconds-whole, day_seconds-bounds}
use Rattle.rule_meaning.proofs.PublicLaws.{day_seconds-day_at, day_seconds-time_at}
use Rattle.rule_meaning.proofs.clock_laws.day_seconds.Goals as goal

pub returns-clause-whole : goal.returns-clause-whole
returns-clause-whole c = day_seconds-whole

pub returns-clause-bounds : goal.returns-clause-bounds
returns-clause-bounds c = day_seconds-bounds

pub returns-clause-day_at : goal.returns-clause-day_at
returns-clause-day_at c = day_seconds-day_at

pub returns-clause-time_at : goal.returns-clause-time_at
returns-clause-time_at c = day_seconds-time_at
