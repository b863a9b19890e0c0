use Rattle.std.proofs.Common.{refl}
use Rattle.report_lines.proofs.ExampleWords.{line_words}
use Rattle.report_lines.proofs.examples.questions.Goals as goal

pub returns : goal.returns
unfolding line_words
returns c = record {
  conflict = refl;
  dead = refl;
  limit = refl;
  one_rule = refl;
  no_rule = refl;
  rule_of_zero = refl;
  padded_rule = refl;
  other_case = refl;
  free_link = refl;
  falling_limit = refl;
  other_number = refl;
  two_spaces = refl;
  capital = refl;
}
