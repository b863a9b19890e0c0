use Rattle.std.proofs.Common.{refl}
use Rattle.rule_parser.proofs.ExampleWords.{line_words}
use Rattle.rule_parser.proofs.laws.action_examples.Goals as goal

pub returns : goal.returns
unfolding line_words
returns c = record {
  status = refl;
  setting = refl;
  minus_zero = refl;
  curve = refl;
  series = refl;
  pid = refl;
  no_curve = refl;
  no_series = refl;
  in_file = refl;
  negative = refl;
  large = refl;
  status_as_setting = refl;
  curve_of_status = refl;
  pid_of_status = refl;
  no_numbers = refl;
  large_number = refl;
  word_first = refl;
  status_of_orifice = refl;
  setting_of_conduit = refl;
  other_attribute = refl;
  other_kind = refl;
}
