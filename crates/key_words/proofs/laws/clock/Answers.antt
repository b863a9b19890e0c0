use Rattle.key_words.proofs.PublicLaws.{clock-exact, clock-back}
use Rattle.key_words.proofs.laws.clock.Goals as goal

pub returns-clause-exact : goal.returns-clause-exact
returns-clause-exact c = clock-exact

pub returns-clause-back : goal.returns-clause-back
returns-clause-back c = clock-back
