use Rattle.key_words.proofs.PublicLaws.{relations-exact, relations-back}
use Rattle.key_words.proofs.laws.relations.Goals as goal

pub returns-clause-exact : goal.returns-clause-exact
returns-clause-exact c = relations-exact

pub returns-clause-back : goal.returns-clause-back
returns-clause-back c = relations-back
