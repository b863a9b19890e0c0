-- The law of timers.
use Rattle.rule_meaning.proofs.PublicLaws.{timers-just_one}
use Rattle.rule_meaning.proofs.laws.timers.Goals as goal

pub returns : goal.returns
returns c = record { just_one = timers-just_one }
