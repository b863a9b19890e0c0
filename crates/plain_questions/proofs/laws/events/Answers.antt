-- The laws of events at the cells of plain questions.
use Rattle.plain_questions.proofs.PublicLaws.{events-exact, events-open}
use Rattle.plain_questions.proofs.laws.events.Goals as goal

pub returns-clause-open : goal.returns-clause-open
returns-clause-open c = events-open

pub returns-clause-exact : goal.returns-clause-exact
returns-clause-exact c = events-exact
