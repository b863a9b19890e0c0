use Rattle.std.proofs.Common.{refl}
use Rattle.rule_parser.proofs.ExampleWords.{file_words}
use Rattle.rule_parser.proofs.laws.file_examples.Goals as goal

pub returns-clause-projects : goal.returns-clause-projects
unfolding file_words
returns-clause-projects c = record {
  whole_file = refl;
  more_sections = refl;
  with_curve = refl;
  no_line = refl;
  unread_section = refl;
}

pub returns-clause-refusals : goal.returns-clause-refusals
unfolding file_words
returns-clause-refusals c = record {
  unfinished = refl;
  head_alone = refl;
  too_early = refl;
  no_form = refl;
  condition_behind_then = refl;
  object_below = refl;
  wrong_value_first = refl;
  duplicate = refl;
  option_last = refl;
  option_first = refl;
  bad_text = refl;
  bad_text_before_form = refl;
  too_long = refl;
  twice = refl;
  duplicate_in_a_rule = refl;
  bad_curve = refl;
  unknown_in_formula = refl;
  outside_function = refl;
  no_formula = refl;
  later_curve = refl;
  no_curve = refl;
}
