use Rattle.std.proofs.Common.{refl}
use Rattle.num_text.specs.Fields.{leading_digits, past_digits, field, field_below}
use Rattle.num_text.specs.Dates.{month_day_year, year_month_day, month_and_day, day_by_number}
use Rattle.num_text.specs.Clocks.{seconds_part, clock, moment_of}
use Rattle.num_text.specs.Pointed.{decimals, decimal_up_to}
use Rattle.exact_fraction.specs.Number.{ratio, gcd, last_remainder, cancelled}
use Rattle.jiff_core.specs.Calendar.{days_of_months}
use Rattle.num_text.proofs.examples.times.Goals as goal

pub returns-clause-hours : goal.returns-clause-hours
unfolding leading_digits past_digits field field_below month_day_year year_month_day month_and_day day_by_number seconds_part clock moment_of decimals decimal_up_to ratio gcd last_remainder cancelled days_of_months
returns-clause-hours c = refl

pub returns-clause-clock : goal.returns-clause-clock
unfolding leading_digits past_digits field field_below month_day_year year_month_day month_and_day day_by_number seconds_part clock moment_of decimals decimal_up_to ratio gcd last_remainder cancelled days_of_months
returns-clause-clock c = refl

pub returns-clause-seconds : goal.returns-clause-seconds
unfolding leading_digits past_digits field field_below month_day_year year_month_day month_and_day day_by_number seconds_part clock moment_of decimals decimal_up_to ratio gcd last_remainder cancelled days_of_months
returns-clause-seconds c = refl

pub returns-clause-minute_60 : goal.returns-clause-minute_60
unfolding leading_digits past_digits field field_below month_day_year year_month_day month_and_day day_by_number seconds_part clock moment_of decimals decimal_up_to ratio gcd last_remainder cancelled days_of_months
returns-clause-minute_60 c = refl

pub returns-clause-point_last : goal.returns-clause-point_last
unfolding leading_digits past_digits field field_below month_day_year year_month_day month_and_day day_by_number seconds_part clock moment_of decimals decimal_up_to ratio gcd last_remainder cancelled days_of_months
returns-clause-point_last c = refl

pub returns-clause-past_a_million : goal.returns-clause-past_a_million
unfolding leading_digits past_digits field field_below month_day_year year_month_day month_and_day day_by_number seconds_part clock moment_of decimals decimal_up_to ratio gcd last_remainder cancelled days_of_months
returns-clause-past_a_million c = refl

pub returns-clause-march : goal.returns-clause-march
unfolding leading_digits past_digits field field_below month_day_year year_month_day month_and_day day_by_number seconds_part clock moment_of decimals decimal_up_to ratio gcd last_remainder cancelled days_of_months
returns-clause-march c = refl

pub returns-clause-leap_day : goal.returns-clause-leap_day
unfolding leading_digits past_digits field field_below month_day_year year_month_day month_and_day day_by_number seconds_part clock moment_of decimals decimal_up_to ratio gcd last_remainder cancelled days_of_months
returns-clause-leap_day c = refl

pub returns-clause-last_day : goal.returns-clause-last_day
unfolding leading_digits past_digits field field_below month_day_year year_month_day month_and_day day_by_number seconds_part clock moment_of decimals decimal_up_to ratio gcd last_remainder cancelled days_of_months
returns-clause-last_day c = refl

pub returns-clause-day_0 : goal.returns-clause-day_0
unfolding leading_digits past_digits field field_below month_day_year year_month_day month_and_day day_by_number seconds_part clock moment_of decimals decimal_up_to ratio gcd last_remainder cancelled days_of_months
returns-clause-day_0 c = refl

pub returns-clause-june_31 : goal.returns-clause-june_31
unfolding leading_digits past_digits field field_below month_day_year year_month_day month_and_day day_by_number seconds_part clock moment_of decimals decimal_up_to ratio gcd last_remainder cancelled days_of_months
returns-clause-june_31 c = refl

pub returns-clause-mixed : goal.returns-clause-mixed
unfolding leading_digits past_digits field field_below month_day_year year_month_day month_and_day day_by_number seconds_part clock moment_of decimals decimal_up_to ratio gcd last_remainder cancelled days_of_months
returns-clause-mixed c = refl

pub returns-clause-written_june_31 : goal.returns-clause-written_june_31
unfolding leading_digits past_digits field field_below month_day_year year_month_day month_and_day day_by_number seconds_part clock moment_of decimals decimal_up_to ratio gcd last_remainder cancelled days_of_months
returns-clause-written_june_31 c = refl

pub returns-clause-hyphens : goal.returns-clause-hyphens
unfolding leading_digits past_digits field field_below month_day_year year_month_day month_and_day day_by_number seconds_part clock moment_of decimals decimal_up_to ratio gcd last_remainder cancelled days_of_months
returns-clause-hyphens c = refl

pub returns-clause-hour_24 : goal.returns-clause-hour_24
unfolding leading_digits past_digits field field_below month_day_year year_month_day month_and_day day_by_number seconds_part clock moment_of decimals decimal_up_to ratio gcd last_remainder cancelled days_of_months
returns-clause-hour_24 c = refl

pub returns-clause-small_t : goal.returns-clause-small_t
unfolding leading_digits past_digits field field_below month_day_year year_month_day month_and_day day_by_number seconds_part clock moment_of decimals decimal_up_to ratio gcd last_remainder cancelled days_of_months
returns-clause-small_t c = refl
