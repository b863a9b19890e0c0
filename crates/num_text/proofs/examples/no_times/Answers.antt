use Rattle.std.proofs.Common.{refl}
use Rattle.num_text.specs.Fields.{leading_digits, past_digits, field, field_below}
use Rattle.num_text.specs.Dates.{month_day_year, year_month_day, month_and_day, day_by_number}
use Rattle.num_text.specs.Clocks.{seconds_part, clock, moment_of}
use Rattle.num_text.specs.Pointed.{decimals, decimal_up_to}
use Rattle.exact_fraction.specs.Number.{ratio, gcd, last_remainder, cancelled}
use Rattle.jiff_core.specs.Calendar.{days_of_months}
use Rattle.num_text.proofs.examples.no_times.Goals as goal

pub returns-clause-point_first : goal.returns-clause-point_first
unfolding leading_digits past_digits field field_below month_day_year year_month_day month_and_day day_by_number seconds_part clock moment_of decimals decimal_up_to ratio gcd last_remainder cancelled days_of_months
returns-clause-point_first c = refl

pub returns-clause-comma : goal.returns-clause-comma
unfolding leading_digits past_digits field field_below month_day_year year_month_day month_and_day day_by_number seconds_part clock moment_of decimals decimal_up_to ratio gcd last_remainder cancelled days_of_months
returns-clause-comma c = refl

pub returns-clause-ten_decimals : goal.returns-clause-ten_decimals
unfolding leading_digits past_digits field field_below month_day_year year_month_day month_and_day day_by_number seconds_part clock moment_of decimals decimal_up_to ratio gcd last_remainder cancelled days_of_months
returns-clause-ten_decimals c = refl

pub returns-clause-plus : goal.returns-clause-plus
unfolding leading_digits past_digits field field_below month_day_year year_month_day month_and_day day_by_number seconds_part clock moment_of decimals decimal_up_to ratio gcd last_remainder cancelled days_of_months
returns-clause-plus c = refl

pub returns-clause-power : goal.returns-clause-power
unfolding leading_digits past_digits field field_below month_day_year year_month_day month_and_day day_by_number seconds_part clock moment_of decimals decimal_up_to ratio gcd last_remainder cancelled days_of_months
returns-clause-power c = refl

pub returns-clause-hours_of_8_digits : goal.returns-clause-hours_of_8_digits
unfolding leading_digits past_digits field field_below month_day_year year_month_day month_and_day day_by_number seconds_part clock moment_of decimals decimal_up_to ratio gcd last_remainder cancelled days_of_months
returns-clause-hours_of_8_digits c = refl

pub returns-clause-minutes_of_3_digits : goal.returns-clause-minutes_of_3_digits
unfolding leading_digits past_digits field field_below month_day_year year_month_day month_and_day day_by_number seconds_part clock moment_of decimals decimal_up_to ratio gcd last_remainder cancelled days_of_months
returns-clause-minutes_of_3_digits c = refl

pub returns-clause-no_minutes : goal.returns-clause-no_minutes
unfolding leading_digits past_digits field field_below month_day_year year_month_day month_and_day day_by_number seconds_part clock moment_of decimals decimal_up_to ratio gcd last_remainder cancelled days_of_months
returns-clause-no_minutes c = refl

pub returns-clause-second_60 : goal.returns-clause-second_60
unfolding leading_digits past_digits field field_below month_day_year year_month_day month_and_day day_by_number seconds_part clock moment_of decimals decimal_up_to ratio gcd last_remainder cancelled days_of_months
returns-clause-second_60 c = refl

pub returns-clause-point_for_colon : goal.returns-clause-point_for_colon
unfolding leading_digits past_digits field field_below month_day_year year_month_day month_and_day day_by_number seconds_part clock moment_of decimals decimal_up_to ratio gcd last_remainder cancelled days_of_months
returns-clause-point_for_colon c = refl

pub returns-clause-clock_past_a_million : goal.returns-clause-clock_past_a_million
unfolding leading_digits past_digits field field_below month_day_year year_month_day month_and_day day_by_number seconds_part clock moment_of decimals decimal_up_to ratio gcd last_remainder cancelled days_of_months
returns-clause-clock_past_a_million c = refl
