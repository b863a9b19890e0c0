use Rattle.std.proofs.Common.{refl}
use Rattle.rule_parser.proofs.ExampleWords.{line_words}
use Rattle.rule_parser.proofs.laws.statement_examples.Goals as goal

pub returns : goal.returns
unfolding line_words
returns c = record {
  more = refl;
  more_else = refl;
  first_else = refl;
  condition = refl;
  priority = refl;
  no_priority = refl;
  pid = refl;
  head = refl;
  variable = refl;
  no_key = refl;
  duplicate_expression = refl;
  no_formula = refl;
  last_action = refl;
  no_action = refl;
  no_else = refl;
  large_first = refl;
  last_condition = refl;
  no_condition = refl;
}
