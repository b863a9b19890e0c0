-- The laws of keys by place.
use Rattle.rule_meaning.proofs.PublicLaws.{keys_by_place-input, keys_by_place-of_input}
use Rattle.rule_meaning.proofs.PublicLaws.{keys_by_place-of_link}
use Rattle.rule_meaning.proofs.laws.keys_by_place.Goals as goal

pub returns-clause-input : goal.returns-clause-input
returns-clause-input c = keys_by_place-input

pub returns-clause-of_input : goal.returns-clause-of_input
returns-clause-of_input c = keys_by_place-of_input

pub returns-clause-of_link : goal.returns-clause-of_link
returns-clause-of_link c = keys_by_place-of_link
