-- The laws of movement.
use Rattle.rule_meaning.proofs.PublicLaws.{movement-at_once, movement-up, movement-down}
use Rattle.rule_meaning.proofs.PublicLaws.{movement-number, movement-at_target}
use Rattle.rule_meaning.proofs.PublicLaws.{movement-on_the_way}
use Rattle.rule_meaning.proofs.laws.movement.Goals as goal

pub returns-clause-at_once : goal.returns-clause-at_once
returns-clause-at_once c = movement-at_once

pub returns-clause-up : goal.returns-clause-up
returns-clause-up c = movement-up

pub returns-clause-down : goal.returns-clause-down
returns-clause-down c = movement-down

pub returns-clause-number : goal.returns-clause-number
returns-clause-number c = movement-number

pub returns-clause-at_target : goal.returns-clause-at_target
returns-clause-at_target c = movement-at_target

pub returns-clause-on_the_way : goal.returns-clause-on_the_way
returns-clause-on_the_way c = movement-on_the_way
