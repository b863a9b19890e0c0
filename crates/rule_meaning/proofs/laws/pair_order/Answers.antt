-- The laws of pair order.
use Rattle.rule_meaning.proofs.PublicLaws.{pair_order-asymmetric, pair_order-transitive}
use Rattle.rule_meaning.proofs.PublicLaws.{pair_order-weak, pair_order-ties}
use Rattle.rule_meaning.proofs.laws.pair_order.Goals as goal

pub returns-clause-asymmetric : goal.returns-clause-asymmetric
returns-clause-asymmetric c = pair_order-asymmetric

pub returns-clause-transitive : goal.returns-clause-transitive
returns-clause-transitive c = pair_order-transitive

pub returns-clause-weak : goal.returns-clause-weak
returns-clause-weak c = pair_order-weak

pub returns-clause-ties : goal.returns-clause-ties
returns-clause-ties c = pair_order-ties
