-- What the code's statements, which borrow from the line, say as written.
use Rattle.std.specs.Prelude.{ℕ, List, map, Result, Ok, Err}
use Rattle.std.specs.Borrow.{Bor}
use Rattle.control_lines.specs.Faults.{FaultText, Checked, fault_of}
use Rattle.control_lines.specs.Statements.{Item, ObjectAttribute, KeyText, SideText, TableText}
use Rattle.control_lines.specs.Statements.{PidText, ValueText, ConditionText, ActionText, Statement}
use Rattle.control_lines.specs.Statements.{Object, Clock, Key, Single, Plain, Curve, Series, Pid}
use Rattle.control_lines.specs.Statements.{Variable, Expression, Head, Condition, Action, Priority}
use Rattle.control_lines.specs.declared.fault.Fault.{Fault}
use Rattle.control_lines.specs.declared.statement.ObjectAttribute.{ObjectAttribute as CodeAttribute}
use Rattle.control_lines.specs.declared.statement.KeyText.{KeyText as CodeKey}
use Rattle.control_lines.specs.declared.statement.KeyText.TheVariants as keys
use Rattle.control_lines.specs.declared.statement.SideText.{SideText as CodeSide}
use Rattle.control_lines.specs.declared.statement.SideText.TheVariants as sides
use Rattle.control_lines.specs.declared.statement.TableText.{TableText as CodeTable}
use Rattle.control_lines.specs.declared.statement.PidText.{PidText as CodePid}
use Rattle.control_lines.specs.declared.statement.ValueText.{ValueText as CodeValue}
use Rattle.control_lines.specs.declared.statement.ValueText.TheVariants as values
use Rattle.control_lines.specs.declared.statement.ConditionText.{ConditionText as CodeCondition}
use Rattle.control_lines.specs.declared.statement.ActionText.{ActionText as CodeAction}
use Rattle.control_lines.specs.declared.statement.Statement.{Statement as CodeStatement}
use Rattle.control_lines.specs.declared.statement.Statement.TheVariants as statements

-- a fault
abbrev pub fault_now : Fault → FaultText
fault_now fault = fault_of fault.cause fault.token.now

-- a part of a line: its value, or what is at fault
abbrev pub checked_now : {A : Type 0} → Result A Fault → Checked A
checked_now (Ok value) = Ok value
checked_now (Err fault) = Err (fault_now fault)

-- the items of a line
abbrev pub texts : List (Bor (List ℕ)) → List Item
texts items = map (λ item. item.now) items

-- the parts of statements
abbrev pub attribute_now : CodeAttribute → ObjectAttribute
attribute_now object =
    record { word = object.word; name = object.name.now; attribute = object.attribute.now }

abbrev pub key_now : CodeKey → KeyText
key_now (keys.Object object) = Object (attribute_now object)
key_now (keys.Clock attribute) = Clock attribute.now

abbrev pub side_now : CodeSide → SideText
side_now (sides.Key key) = Key (key_now key)
side_now (sides.Single item) = Single item.now

abbrev pub table_now : CodeTable → TableText
table_now table = record { word = table.word.now; name = table.name.now }

abbrev pub pid_now : CodePid → PidText
pid_now pid = record {
  word = pid.word.now;
  gain = pid.gain.now;
  integral = pid.integral.now;
  derivative = pid.derivative.now;
}

abbrev pub value_now : CodeValue → ValueText
value_now (values.Plain item) = Plain item.now
value_now (values.Curve table) = Curve (table_now table)
value_now (values.Series table) = Series (table_now table)
value_now (values.Pid pid) = Pid (pid_now pid)

abbrev pub condition_now : CodeCondition → ConditionText
condition_now condition = record {
  word = condition.word;
  left = side_now condition.left;
  relation = condition.relation;
  right = side_now condition.right;
}

abbrev pub action_now : CodeAction → ActionText
action_now action = record {
  word = action.word;
  target = attribute_now action.target;
  value = value_now action.value;
}

-- a statement
abbrev pub statement_now : CodeStatement → Statement
statement_now (statements.Variable name key) = Variable name.now (key_now key)
statement_now (statements.Expression name formula) =
    Expression name.now (texts formula.now)
statement_now (statements.Head id) = Head id.now
statement_now (statements.Condition condition) = Condition (condition_now condition)
statement_now (statements.Action action) = Action (action_now action)
statement_now (statements.Priority number) = Priority number.now
