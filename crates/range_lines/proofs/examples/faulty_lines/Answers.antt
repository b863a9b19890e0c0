use Rattle.std.proofs.Common.{refl}
use Rattle.range_lines.proofs.ExampleWords.{file_words}
use Rattle.range_lines.proofs.examples.faulty_lines.Goals as goal

pub returns : goal.returns
unfolding file_words
returns c = record {
  too_long = refl;
  control_byte = refl;
  no_form = refl;
  more_items = refl;
  no_number = refl;
  large_number = refl;
  below_zero = refl;
  no_moment = refl;
  no_step = refl;
  one_rule = refl;
  unknown_object = refl;
  other_kind = refl;
  no_range = refl;
  unknown_attribute = refl;
  unknown_rule = refl;
  free_link = refl;
  dead_rule = refl;
  empty_range = refl;
  empty_moments = refl;
  empty_limit = refl;
  again = refl;
  moments_again = refl;
  step_again = refl;
}
