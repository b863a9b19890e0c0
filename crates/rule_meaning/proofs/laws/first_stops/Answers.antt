-- The laws of first stops.
use Rattle.rule_meaning.proofs.PublicLaws.{first_stops-kept, first_stops-now, first_stops-none}
use Rattle.rule_meaning.proofs.laws.first_stops.Goals as goal

pub returns-clause-kept : goal.returns-clause-kept
returns-clause-kept c = first_stops-kept

pub returns-clause-now : goal.returns-clause-now
returns-clause-now c = first_stops-now

pub returns-clause-none : goal.returns-clause-none
returns-clause-none c = first_stops-none
