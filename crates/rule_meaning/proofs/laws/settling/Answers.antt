-- The laws of settled pairs.
use Rattle.rule_meaning.proofs.PublicLaws.{settling-at_most_one, settling-at_least_one}
use Rattle.rule_meaning.proofs.PublicLaws.{settling-only_where_listed, settling-given}
use Rattle.rule_meaning.proofs.PublicLaws.{settling-none_given, settling-order_free}
use Rattle.rule_meaning.proofs.laws.settling.Goals as goal

pub returns-clause-at_most_one : goal.returns-clause-at_most_one
returns-clause-at_most_one c = settling-at_most_one

pub returns-clause-at_least_one : goal.returns-clause-at_least_one
returns-clause-at_least_one c = settling-at_least_one

pub returns-clause-only_where_listed : goal.returns-clause-only_where_listed
returns-clause-only_where_listed c = settling-only_where_listed

pub returns-clause-given : goal.returns-clause-given
returns-clause-given c = settling-given

pub returns-clause-none_given : goal.returns-clause-none_given
returns-clause-none_given c = settling-none_given

pub returns-clause-order_free : goal.returns-clause-order_free
returns-clause-order_free c = settling-order_free
