use Rattle.std.proofs.Common.{refl}
use Rattle.rule_parser.proofs.ExampleWords.{line_words}
use Rattle.rule_parser.proofs.laws.condition_examples.Goals as goal

pub returns : goal.returns
unfolding line_words
returns c = record {
  number = refl;
  joined_by_or = refl;
  time = refl;
  time_of_variable = refl;
  later = refl;
  time_and_variable = refl;
  expression = refl;
  on = refl;
  variable_before_status = refl;
  clock_time = refl;
  timer = refl;
  closed_timer = refl;
  day = refl;
  no_day = refl;
  past_a_year = refl;
  no_date = refl;
  month = refl;
  no_status = refl;
  large_status = refl;
  no_number = refl;
  expression_on_the_right = refl;
  no_object = refl;
  ambiguous = refl;
  other_kind = refl;
  no_attribute = refl;
  no_clock = refl;
  no_name = refl;
  number_on_the_left = refl;
  right_before_left = refl;
  left_of_two = refl;
}
