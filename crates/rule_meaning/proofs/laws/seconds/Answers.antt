-- The laws of seconds.
use Rattle.rule_meaning.proofs.PublicLaws.{seconds-truth}
use Rattle.rule_meaning.proofs.laws.seconds.Goals as goal

pub returns : goal.returns
returns c = record { truth = seconds-truth }
