-- The law of dates.
use Rattle.rule_meaning.proofs.PublicLaws.{dates-calendar}
use Rattle.rule_meaning.proofs.laws.dates.Goals as goal

pub returns : goal.returns
returns c = record { calendar = dates-calendar }
