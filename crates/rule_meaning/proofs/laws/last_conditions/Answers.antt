-- The laws of last conditions.
use Rattle.rule_meaning.proofs.PublicLaws.{last_conditions-at_end}
use Rattle.rule_meaning.proofs.laws.last_conditions.Goals as goal

pub returns : goal.returns
returns c = record { at_end = last_conditions-at_end }
