-- The clock: seconds since 1970-01-01T00:00:00 as civil days and hours.
use Rattle.std.specs.Prelude.{◌≡◌, ℕ, ◌+◌, ◌%◌, ℤ, pos, ◌-ℤ◌}
use Rattle.std.specs.Int.{int_div_euclid, int_rem_euclid}
use Rattle.jiff_core.specs.Calendar.{weekday_number}
use Rattle.exact_fraction.specs.Number.{Rational, ratio, whole}
use Rattle.num_text.specs.CivilDays.{days_after_first, year_at, month_at, place_at}
use Rattle.rule_types.specs.declared.key.ClockAttr.{ClockAttr}
use Rattle.rule_types.specs.declared.key.ClockAttr.TheVariants.{Time, Date, Month, Day, ClockTime}
use Rattle.rule_types.specs.declared.key.ClockAttr.TheVariants.{DayOfYear}

-- the day number of a second: 0 for 1970-01-01
unfoldable pub day_of : ℤ → ℤ
day_of second = int_div_euclid second (pos 86400)

-- whole seconds in hours
unfoldable pub hours_of : ℤ → Rational
hours_of seconds = ratio seconds 3600

-- the year of a day
unfoldable pub year_of : ℤ → ℕ
year_of day = year_at (days_after_first day)

-- the month of a day, 1 for January (SWMM 5.2 manual, [CONTROLS], SIMULATION MONTH)
unfoldable pub month_of : ℤ → ℕ
month_of day = month_at (days_after_first day)

-- the day of the week, 1 for Sunday (SWMM 5.2 manual, [CONTROLS], SIMULATION DAY)
unfoldable pub week_day_of : ℤ → ℕ
week_day_of day = (weekday_number day + 1) % 7 + 1

-- the place of a day in its year, 1 for 1 January (SWMM 5.2 manual, [CONTROLS], SIMULATION
-- DAYOFYEAR)
unfoldable pub year_day_of : ℤ → ℤ
year_day_of day = pos (place_at (days_after_first day))

-- on a day the clock has year y, month m and the d-th day of the year
pub record IsClockDate (day : ℤ) (y m d : ℕ) : Type 0 where
  pub year : year_of day ≡ y
  pub month : month_of day ≡ m
  pub place : year_day_of day ≡ pos d

-- the value of an attribute of the clock at a second, from a start: hours since the start, the day
-- number, the month, the day of the week, hours since midnight, the day of the year (SWMM 5.2
-- manual, [CONTROLS], SIMULATION)
unfoldable pub clock_value : ClockAttr → ℤ → ℤ → Rational
clock_value Time start second = hours_of (second -ℤ start)
clock_value Date start second = whole (day_of second)
clock_value Month start second = whole (pos (month_of (day_of second)))
clock_value Day start second = whole (pos (week_day_of (day_of second)))
clock_value ClockTime start second = hours_of (int_rem_euclid second (pos 86400))
clock_value DayOfYear start second = whole (year_day_of (day_of second))
