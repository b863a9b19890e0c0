-- The laws of known premises.
use Rattle.verdict_meaning.proofs.PublicLaws.{known_premises-no_conflict}
use Rattle.verdict_meaning.proofs.PublicLaws.{known_premises-not_alive}
use Rattle.verdict_meaning.proofs.laws.known_premises.Goals as goal

pub returns-clause-no_conflict : goal.returns-clause-no_conflict
returns-clause-no_conflict c = known_premises-no_conflict

pub returns-clause-not_alive : goal.returns-clause-not_alive
returns-clause-not_alive c = known_premises-not_alive
