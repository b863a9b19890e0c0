use Rattle.std.proofs.Common.{refl, ap, Some}
use Rattle.jiff_core.specs.Calendar.{days_of_months}
use Rattle.num_text.specs.Fields.{leading_digits, past_digits, field, field_below}
use Rattle.num_text.specs.Dates.{month_day_year, year_month_day}
use Rattle.num_text.specs.Clocks.{seconds_part, clock, moment_of}
use Rattle.num_text.specs.CivilDays.{year_at, place_at, months_before, month_at, day_at}
use Rattle.num_text.specs.Written.{places, written_moment}
use Rattle.num_text.proofs.June.{days_from_civil-june}
use Rattle.num_text.proofs.examples.days.Goals as goal

pub returns-clause-slashes : goal.returns-clause-slashes
unfolding leading_digits past_digits field month_day_year
returns-clause-slashes c = ap Some days_from_civil-june

pub returns-clause-hyphens : goal.returns-clause-hyphens
unfolding leading_digits past_digits field month_day_year
returns-clause-hyphens c = ap Some days_from_civil-june

pub returns-clause-slashed_moment : goal.returns-clause-slashed_moment
unfolding leading_digits past_digits field field_below month_day_year year_month_day seconds_part clock moment_of
returns-clause-slashed_moment c = rw days_from_civil-june refl

pub returns-clause-spaced_moment : goal.returns-clause-spaced_moment
unfolding leading_digits past_digits field field_below month_day_year year_month_day seconds_part clock moment_of
returns-clause-spaced_moment c = rw days_from_civil-june refl

pub returns-clause-hours_of_one_digit : goal.returns-clause-hours_of_one_digit
unfolding leading_digits past_digits field field_below month_day_year year_month_day seconds_part clock moment_of
returns-clause-hours_of_one_digit c = rw days_from_civil-june refl

pub returns-clause-written : goal.returns-clause-written
unfolding places written_moment year_at place_at months_before month_at day_at days_of_months
returns-clause-written c = refl

pub returns-clause-first : goal.returns-clause-first
unfolding places written_moment year_at place_at months_before month_at day_at days_of_months
returns-clause-first c = refl

pub returns-clause-last : goal.returns-clause-last
unfolding places written_moment year_at place_at months_before month_at day_at days_of_months
returns-clause-last c = refl
