use Rattle.std.proofs.Common.{refl}
use Rattle.num_text.specs.Fields.{leading_digits, past_digits, field, field_below}
use Rattle.num_text.specs.Dates.{month_day_year, year_month_day, month_and_day, day_by_number}
use Rattle.num_text.specs.Clocks.{seconds_part, clock, moment_of}
use Rattle.num_text.specs.Pointed.{decimals, decimal_up_to}
use Rattle.exact_fraction.specs.Number.{ratio, gcd, last_remainder, cancelled}
use Rattle.jiff_core.specs.Calendar.{days_of_months}
use Rattle.num_text.proofs.examples.no_days.Goals as goal

pub returns-clause-hyphen_and_slash : goal.returns-clause-hyphen_and_slash
unfolding leading_digits past_digits field field_below month_day_year year_month_day month_and_day day_by_number seconds_part clock moment_of decimals decimal_up_to ratio gcd last_remainder cancelled days_of_months
returns-clause-hyphen_and_slash c = refl

pub returns-clause-year_of_2_digits : goal.returns-clause-year_of_2_digits
unfolding leading_digits past_digits field field_below month_day_year year_month_day month_and_day day_by_number seconds_part clock moment_of decimals decimal_up_to ratio gcd last_remainder cancelled days_of_months
returns-clause-year_of_2_digits c = refl

pub returns-clause-year_of_5_digits : goal.returns-clause-year_of_5_digits
unfolding leading_digits past_digits field field_below month_day_year year_month_day month_and_day day_by_number seconds_part clock moment_of decimals decimal_up_to ratio gcd last_remainder cancelled days_of_months
returns-clause-year_of_5_digits c = refl

pub returns-clause-month_of_3_digits : goal.returns-clause-month_of_3_digits
unfolding leading_digits past_digits field field_below month_day_year year_month_day month_and_day day_by_number seconds_part clock moment_of decimals decimal_up_to ratio gcd last_remainder cancelled days_of_months
returns-clause-month_of_3_digits c = refl

pub returns-clause-month_0 : goal.returns-clause-month_0
unfolding leading_digits past_digits field field_below month_day_year year_month_day month_and_day day_by_number seconds_part clock moment_of decimals decimal_up_to ratio gcd last_remainder cancelled days_of_months
returns-clause-month_0 c = refl

pub returns-clause-month_13 : goal.returns-clause-month_13
unfolding leading_digits past_digits field field_below month_day_year year_month_day month_and_day day_by_number seconds_part clock moment_of decimals decimal_up_to ratio gcd last_remainder cancelled days_of_months
returns-clause-month_13 c = refl

pub returns-clause-year_0 : goal.returns-clause-year_0
unfolding leading_digits past_digits field field_below month_day_year year_month_day month_and_day day_by_number seconds_part clock moment_of decimals decimal_up_to ratio gcd last_remainder cancelled days_of_months
returns-clause-year_0 c = refl

pub returns-clause-points : goal.returns-clause-points
unfolding leading_digits past_digits field field_below month_day_year year_month_day month_and_day day_by_number seconds_part clock moment_of decimals decimal_up_to ratio gcd last_remainder cancelled days_of_months
returns-clause-points c = refl

pub returns-clause-year_first : goal.returns-clause-year_first
unfolding leading_digits past_digits field field_below month_day_year year_month_day month_and_day day_by_number seconds_part clock moment_of decimals decimal_up_to ratio gcd last_remainder cancelled days_of_months
returns-clause-year_first c = refl

pub returns-clause-day_367 : goal.returns-clause-day_367
unfolding leading_digits past_digits field field_below month_day_year year_month_day month_and_day day_by_number seconds_part clock moment_of decimals decimal_up_to ratio gcd last_remainder cancelled days_of_months
returns-clause-day_367 c = refl

pub returns-clause-day_of_4_digits : goal.returns-clause-day_of_4_digits
unfolding leading_digits past_digits field field_below month_day_year year_month_day month_and_day day_by_number seconds_part clock moment_of decimals decimal_up_to ratio gcd last_remainder cancelled days_of_months
returns-clause-day_of_4_digits c = refl

pub returns-clause-day_by_hyphen : goal.returns-clause-day_by_hyphen
unfolding leading_digits past_digits field field_below month_day_year year_month_day month_and_day day_by_number seconds_part clock moment_of decimals decimal_up_to ratio gcd last_remainder cancelled days_of_months
returns-clause-day_by_hyphen c = refl
