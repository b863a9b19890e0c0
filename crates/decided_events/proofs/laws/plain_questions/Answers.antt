-- The laws of plain questions.
use Rattle.decided_events.proofs.PublicLaws.{plain_questions-event, plain_questions-no_stop}
use Rattle.decided_events.proofs.laws.plain_questions.Goals as goal

pub returns-clause-no_stop : goal.returns-clause-no_stop
returns-clause-no_stop c = plain_questions-no_stop

pub returns-clause-event : goal.returns-clause-event
returns-clause-event c = plain_questions-event
