-- What well formed rules cannot have: conditions, actions and their numbers.
use Rattle.rule_types.proofs.RuleFaults.{no_condition, begins_with_or, no_action}
use Rattle.rule_types.proofs.RuleFaults.{left_attribute, left_name, right_attribute}
use Rattle.rule_types.proofs.RuleFaults.{negative_then, negative_else, half_step_above}
use Rattle.rule_types.proofs.RuleFaults.{half_step_date, half_step_key, half_step_part}
use Rattle.rule_types.proofs.RuleFaults.{half_step_negative, half_step_large, many_rules}
use Rattle.rule_types.proofs.RuleFaults.{many_conditions, many_then, many_else}
use Rattle.rule_types.proofs.examples.faulty_rules.Goals as goal

pub returns : goal.returns
returns c = record {
  no_condition = no_condition;
  begins_with_or = begins_with_or;
  no_action = no_action;
  left_attribute = left_attribute;
  left_name = left_name;
  right_attribute = right_attribute;
  negative_then = negative_then;
  negative_else = negative_else;
  half_step_above = half_step_above;
  half_step_date = half_step_date;
  half_step_key = half_step_key;
  half_step_part = half_step_part;
  half_step_negative = half_step_negative;
  half_step_large = half_step_large;
  many_rules = many_rules;
  many_conditions = many_conditions;
  many_then = many_then;
  many_else = many_else;
}
