-- The laws of look-ups by place.
use Rattle.rule_meaning.proofs.PublicLaws.{look_ups-place, look_ups-found, look_ups-absent}
use Rattle.rule_meaning.proofs.laws.look_ups.Goals as goal

pub returns-clause-place : goal.returns-clause-place
returns-clause-place c c' = look_ups-place

pub returns-clause-found : goal.returns-clause-found
returns-clause-found c c' = look_ups-found

pub returns-clause-absent : goal.returns-clause-absent
returns-clause-absent c c' = look_ups-absent
