-- The laws of ranks.
use Rattle.rule_meaning.proofs.PublicLaws.{ranks-asymmetric, ranks-transitive, ranks-weak}
use Rattle.rule_meaning.proofs.PublicLaws.{ranks-ties}
use Rattle.rule_meaning.proofs.laws.ranks.Goals as goal

pub returns-clause-asymmetric : goal.returns-clause-asymmetric
returns-clause-asymmetric c = ranks-asymmetric

pub returns-clause-transitive : goal.returns-clause-transitive
returns-clause-transitive c = ranks-transitive

pub returns-clause-weak : goal.returns-clause-weak
returns-clause-weak c = ranks-weak

pub returns-clause-ties : goal.returns-clause-ties
returns-clause-ties c = ranks-ties
