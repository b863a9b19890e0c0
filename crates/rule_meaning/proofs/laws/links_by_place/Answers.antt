-- The laws of links by place.
use Rattle.rule_meaning.proofs.PublicLaws.{links_by_place-state, links_by_place-rate}
use Rattle.rule_meaning.proofs.PublicLaws.{links_by_place-pump, links_by_place-target}
use Rattle.rule_meaning.proofs.PublicLaws.{links_by_place-fits}
use Rattle.rule_meaning.proofs.laws.links_by_place.Goals as goal

pub returns-clause-state : goal.returns-clause-state
returns-clause-state c = links_by_place-state

pub returns-clause-rate : goal.returns-clause-rate
returns-clause-rate c = links_by_place-rate

pub returns-clause-pump : goal.returns-clause-pump
returns-clause-pump c = links_by_place-pump

pub returns-clause-target : goal.returns-clause-target
returns-clause-target c = links_by_place-target

pub returns-clause-fits : goal.returns-clause-fits
returns-clause-fits c = links_by_place-fits
