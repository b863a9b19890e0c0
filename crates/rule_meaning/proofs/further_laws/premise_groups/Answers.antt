-- Further laws.
use Rattle.rule_meaning.proofs.PublicLaws.{premise_groups-some_condition, premise_groups-at_head}
use Rattle.rule_meaning.proofs.PublicLaws.{premise_groups-not_inside}
use Rattle.rule_meaning.proofs.further_laws.premise_groups.Goals as goal

pub returns-clause-some_condition : goal.returns-clause-some_condition
returns-clause-some_condition c = premise_groups-some_condition

pub returns-clause-at_head : goal.returns-clause-at_head
returns-clause-at_head c = premise_groups-at_head

pub returns-clause-not_inside : goal.returns-clause-not_inside
returns-clause-not_inside c = premise_groups-not_inside
