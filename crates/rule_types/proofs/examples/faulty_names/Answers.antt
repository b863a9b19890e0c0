-- What well formed rules cannot have: variables and expressions.
use Rattle.rule_types.proofs.RuleFaults.{attribute, deep_formula, large_exponent}
use Rattle.rule_types.proofs.RuleFaults.{later_variable, own_name, no_variable, no_name}
use Rattle.rule_types.proofs.RuleFaults.{many_names}
use Rattle.rule_types.proofs.examples.faulty_names.Goals as goal

pub returns : goal.returns
returns c = record {
  attribute = attribute;
  deep_formula = deep_formula;
  large_exponent = large_exponent;
  later_variable = later_variable;
  own_name = own_name;
  no_variable = no_variable;
  no_name = no_name;
  many_names = many_names;
}
