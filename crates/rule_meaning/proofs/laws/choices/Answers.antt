-- The laws of choices.
use Rattle.rule_meaning.proofs.PublicLaws.{choices-reading, choices-standings, choices-memory}
use Rattle.rule_meaning.proofs.PublicLaws.{choices-standings_now, choices-switches}
use Rattle.rule_meaning.proofs.PublicLaws.{choices-first_stop, choices-replayed}
use Rattle.rule_meaning.proofs.laws.choices.Goals as goal

pub returns-clause-reading : goal.returns-clause-reading
returns-clause-reading c = choices-reading

pub returns-clause-standings : goal.returns-clause-standings
returns-clause-standings c = choices-standings

pub returns-clause-memory : goal.returns-clause-memory
returns-clause-memory c = choices-memory

pub returns-clause-standings_now : goal.returns-clause-standings_now
returns-clause-standings_now c = choices-standings_now

pub returns-clause-switches : goal.returns-clause-switches
returns-clause-switches c = choices-switches

pub returns-clause-first_stop : goal.returns-clause-first_stop
returns-clause-first_stop c = choices-first_stop

pub returns-clause-replayed : goal.returns-clause-replayed
returns-clause-replayed c = choices-replayed
