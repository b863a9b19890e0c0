use Rattle.key_words.proofs.PublicLaws.{objects-exact, objects-back}
use Rattle.key_words.proofs.laws.objects.Goals as goal

pub returns-clause-exact : goal.returns-clause-exact
returns-clause-exact c = objects-exact

pub returns-clause-back : goal.returns-clause-back
returns-clause-back c = objects-back
