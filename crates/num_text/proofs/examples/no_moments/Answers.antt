use Rattle.std.proofs.Common.{refl}
use Rattle.num_text.specs.Fields.{leading_digits, past_digits, field, field_below}
use Rattle.num_text.specs.Dates.{month_day_year, year_month_day, month_and_day, day_by_number}
use Rattle.num_text.specs.Clocks.{seconds_part, clock, moment_of}
use Rattle.num_text.specs.Pointed.{decimals, decimal_up_to}
use Rattle.exact_fraction.specs.Number.{ratio, gcd, last_remainder, cancelled}
use Rattle.jiff_core.specs.Calendar.{days_of_months}
use Rattle.num_text.proofs.examples.no_moments.Goals as goal

pub returns-clause-month_of_1_digit : goal.returns-clause-month_of_1_digit
unfolding leading_digits past_digits field field_below month_day_year year_month_day month_and_day day_by_number seconds_part clock moment_of decimals decimal_up_to ratio gcd last_remainder cancelled days_of_months
returns-clause-month_of_1_digit c = refl

pub returns-clause-slashes_year_first : goal.returns-clause-slashes_year_first
unfolding leading_digits past_digits field field_below month_day_year year_month_day month_and_day day_by_number seconds_part clock moment_of decimals decimal_up_to ratio gcd last_remainder cancelled days_of_months
returns-clause-slashes_year_first c = refl

pub returns-clause-two_spaces : goal.returns-clause-two_spaces
unfolding leading_digits past_digits field field_below month_day_year year_month_day month_and_day day_by_number seconds_part clock moment_of decimals decimal_up_to ratio gcd last_remainder cancelled days_of_months
returns-clause-two_spaces c = refl

pub returns-clause-hours_of_3_digits : goal.returns-clause-hours_of_3_digits
unfolding leading_digits past_digits field field_below month_day_year year_month_day month_and_day day_by_number seconds_part clock moment_of decimals decimal_up_to ratio gcd last_remainder cancelled days_of_months
returns-clause-hours_of_3_digits c = refl

pub returns-clause-hours_alone : goal.returns-clause-hours_alone
unfolding leading_digits past_digits field field_below month_day_year year_month_day month_and_day day_by_number seconds_part clock moment_of decimals decimal_up_to ratio gcd last_remainder cancelled days_of_months
returns-clause-hours_alone c = refl

pub returns-clause-day_alone : goal.returns-clause-day_alone
unfolding leading_digits past_digits field field_below month_day_year year_month_day month_and_day day_by_number seconds_part clock moment_of decimals decimal_up_to ratio gcd last_remainder cancelled days_of_months
returns-clause-day_alone c = refl

pub returns-clause-minute_60 : goal.returns-clause-minute_60
unfolding leading_digits past_digits field field_below month_day_year year_month_day month_and_day day_by_number seconds_part clock moment_of decimals decimal_up_to ratio gcd last_remainder cancelled days_of_months
returns-clause-minute_60 c = refl

pub returns-clause-underscore : goal.returns-clause-underscore
unfolding leading_digits past_digits field field_below month_day_year year_month_day month_and_day day_by_number seconds_part clock moment_of decimals decimal_up_to ratio gcd last_remainder cancelled days_of_months
returns-clause-underscore c = refl

pub returns-clause-zone : goal.returns-clause-zone
unfolding leading_digits past_digits field field_below month_day_year year_month_day month_and_day day_by_number seconds_part clock moment_of decimals decimal_up_to ratio gcd last_remainder cancelled days_of_months
returns-clause-zone c = refl
