-- The laws of some rules.
use Rattle.rule_meaning.proofs.PublicLaws.{some_rules-rule, some_rules-settled, some_rules-listed}
use Rattle.rule_meaning.proofs.PublicLaws.{some_rules-used, some_rules-asked}
use Rattle.rule_meaning.proofs.laws.some_rules.Goals as goal

pub returns-clause-rule : goal.returns-clause-rule
returns-clause-rule c = some_rules-rule

pub returns-clause-settled : goal.returns-clause-settled
returns-clause-settled c = some_rules-settled

pub returns-clause-listed : goal.returns-clause-listed
returns-clause-listed c = some_rules-listed

pub returns-clause-used : goal.returns-clause-used
returns-clause-used c = some_rules-used

pub returns-clause-asked : goal.returns-clause-asked
returns-clause-asked c = some_rules-asked
