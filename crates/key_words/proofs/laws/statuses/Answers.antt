use Rattle.key_words.proofs.PublicLaws.{statuses-exact, statuses-back}
use Rattle.key_words.proofs.laws.statuses.Goals as goal

pub returns-clause-exact : goal.returns-clause-exact
returns-clause-exact c = statuses-exact

pub returns-clause-back : goal.returns-clause-back
returns-clause-back c = statuses-back
