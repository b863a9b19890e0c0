-- The laws of rows.
use Rattle.rule_meaning.proofs.PublicLaws.{dues-every_row, dues-due, dues-not_due}
use Rattle.rule_meaning.proofs.PublicLaws.{dues-not_due_keeps, dues-stop_keeps}
use Rattle.rule_meaning.proofs.laws.dues.Goals as goal

pub returns-clause-every_row : goal.returns-clause-every_row
returns-clause-every_row c = dues-every_row

pub returns-clause-due : goal.returns-clause-due
returns-clause-due c = dues-due

pub returns-clause-not_due : goal.returns-clause-not_due
returns-clause-not_due c = dues-not_due

pub returns-clause-not_due_keeps : goal.returns-clause-not_due_keeps
returns-clause-not_due_keeps c = dues-not_due_keeps

pub returns-clause-stop_keeps : goal.returns-clause-stop_keeps
returns-clause-stop_keeps c = dues-stop_keeps
