-- The law of orders.
use Rattle.rule_meaning.proofs.PublicLaws.{orders-settled, orders-values, orders-controlled}
use Rattle.rule_meaning.proofs.PublicLaws.{orders-rise}
use Rattle.rule_meaning.proofs.laws.orders.Goals as goal

pub returns-clause-settled : goal.returns-clause-settled
returns-clause-settled c = orders-settled

pub returns-clause-values : goal.returns-clause-values
returns-clause-values c = orders-values

pub returns-clause-controlled : goal.returns-clause-controlled
returns-clause-controlled c = orders-controlled

pub returns-clause-rise : goal.returns-clause-rise
returns-clause-rise c = orders-rise
