-- The laws of values.
use Rattle.rule_meaning.proofs.PublicLaws.{values-on_line, values-kept_step, values-kept}
use Rattle.rule_meaning.proofs.PublicLaws.{values-tables, values-pids}
use Rattle.rule_meaning.proofs.laws.values.Goals as goal

pub returns-clause-on_line : goal.returns-clause-on_line
returns-clause-on_line c = values-on_line

pub returns-clause-kept_step : goal.returns-clause-kept_step
returns-clause-kept_step c = values-kept_step

pub returns-clause-kept : goal.returns-clause-kept
returns-clause-kept c = values-kept

pub returns-clause-tables : goal.returns-clause-tables
returns-clause-tables c = values-tables

pub returns-clause-pids : goal.returns-clause-pids
returns-clause-pids c = values-pids
