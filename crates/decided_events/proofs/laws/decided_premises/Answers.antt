-- The laws of decided premises.
use Rattle.decided_events.proofs.PublicLaws.{decided_premises-dead, decided_premises-conflict}
use Rattle.decided_events.proofs.PublicLaws.{decided_premises-in_box, decided_premises-limit}
use Rattle.decided_events.proofs.laws.decided_premises.Goals as goal

pub returns-clause-in_box : goal.returns-clause-in_box
returns-clause-in_box c = decided_premises-in_box

pub returns-clause-conflict : goal.returns-clause-conflict
returns-clause-conflict c = decided_premises-conflict

pub returns-clause-dead : goal.returns-clause-dead
returns-clause-dead c = decided_premises-dead

pub returns-clause-limit : goal.returns-clause-limit
returns-clause-limit c = decided_premises-limit
