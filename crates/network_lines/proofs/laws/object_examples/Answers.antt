use Rattle.std.proofs.Common.{refl}
use Rattle.num_text.specs.Fields.{leading_digits, past_digits, field, field_below}
use Rattle.num_text.specs.Pointed.{decimals, decimal_up_to}
use Rattle.num_text.specs.Numbers.{spelling_of, without_end_zeros, scaled, bounded, spelled}
use Rattle.exact_fraction.specs.Number.{den, last_remainder, gcd, cancelled, ratio}
use Rattle.exact_fraction.specs.Number.{whole, fits}
use Rattle.exact_fraction.specs.Checked.{fitting, made}
use Rattle.key_words.specs.Words.{object_word, plain_attribute, hour_depth, attribute_named, clock_attribute}
use Rattle.key_words.specs.Words.{relation_of, status_word}
use Rattle.inp_text.specs.Headings.{heads, section_named}
use Rattle.control_lines.specs.Faults.{sooner, both}
use Rattle.network_lines.specs.Limits.{room_for}
use Rattle.network_lines.specs.Values.{value_read}
use Rattle.network_lines.specs.Objects.{line_read}
use Rattle.network_lines.proofs.laws.object_examples.Goals as goal

pub returns : goal.returns
unfolding leading_digits past_digits field field_below decimals decimal_up_to spelling_of without_end_zeros scaled bounded spelled den last_remainder gcd cancelled ratio whole fits fitting made object_word plain_attribute hour_depth attribute_named clock_attribute relation_of status_word heads section_named sooner both room_for value_read line_read
returns c = record {
  off = refl;
  on = refl;
  no_status = refl;
  no_word = refl;
  large = refl;
  travels = refl;
  at_once = refl;
  negative = refl;
  of_others = refl;
  network = refl;
  again = refl;
  other_space = refl;
  duplicate_first = refl;
  in_order = refl;
  last_object = refl;
  no_room = refl;
}
