-- Further laws.
use Rattle.rule_meaning.proofs.PublicLaws.{table_values-some_value, table_values-one_value}
use Rattle.rule_meaning.proofs.PublicLaws.{table_values-fits}
use Rattle.rule_meaning.proofs.further_laws.table_values.Goals as goal

pub returns-clause-some_value : goal.returns-clause-some_value
returns-clause-some_value c = table_values-some_value

pub returns-clause-one_value : goal.returns-clause-one_value
returns-clause-one_value c = table_values-one_value

pub returns-clause-fits : goal.returns-clause-fits
returns-clause-fits c = table_values-fits
