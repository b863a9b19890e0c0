use Rattle.key_words.proofs.PublicLaws.{attributes-exact, attributes-back}
use Rattle.key_words.proofs.laws.attributes.Goals as goal

pub returns-clause-exact : goal.returns-clause-exact
returns-clause-exact c = attributes-exact

pub returns-clause-back : goal.returns-clause-back
returns-clause-back c = attributes-back
