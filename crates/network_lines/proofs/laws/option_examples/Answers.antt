use Rattle.std.proofs.Common.{refl}
use Rattle.num_text.specs.Clocks.{seconds_part, clock}
use Rattle.num_text.specs.Dates.{month_day_year, month_and_day, day_by_number}
use Rattle.num_text.specs.Fields.{leading_digits, past_digits, field, field_below}
use Rattle.num_text.specs.Pointed.{decimals, decimal_up_to}
use Rattle.num_text.specs.Steps.{routing_step_of}
use Rattle.exact_fraction.specs.Number.{den, last_remainder, gcd, cancelled, ratio}
use Rattle.exact_fraction.specs.Number.{whole, fits}
use Rattle.exact_fraction.specs.Order.{compares, less}
use Rattle.exact_fraction.specs.Checked.{fitting, made}
use Rattle.network_lines.specs.Options.{option_read}
use Rattle.network_lines.proofs.laws.option_examples.Goals as goal

pub returns : goal.returns
unfolding seconds_part clock month_day_year month_and_day day_by_number leading_digits past_digits field field_below decimals decimal_up_to routing_step_of den last_remainder gcd cancelled ratio whole fits compares less fitting made option_read
returns c = record {
  start_time = refl;
  late_start = refl;
  routing_clock = refl;
  routing_seconds = refl;
  no_routing = refl;
  rule_step = refl;
  whole_day = refl;
  past_a_day = refl;
  many_hours = refl;
  plain_number = refl;
  no_value = refl;
  no_date = refl;
  other = refl;
  last_counts = refl;
  each_is_checked = refl;
}
