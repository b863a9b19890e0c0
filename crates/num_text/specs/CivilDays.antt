-- The year, the month, the day of the month and the place in the year of a day that is so many days
-- after 0001-01-01.
use Rattle.std.specs.Prelude.{◌≡◌, ℕ, zero, suc, ◌+◌, ◌-◌, ◌*◌, ◌/◌, nat_lt, nat_le, if◌then◌else◌, ℤ, pos, ◌+ℤ◌, unsigned_abs}
use Rattle.exact_fraction.specs.Moments.{days_through}
use Rattle.jiff_core.specs.Calendar.{days_of_months}

-- how many days after 0001-01-01 a day comes, by its day number, 0 for 1970-01-01
abbrev pub days_after_first : ℤ → ℕ
days_after_first day = unsigned_abs (day +ℤ pos 719_162)

-- a year of average length near to a number of days after 0001-01-01
abbrev pub near_year : ℕ → ℕ
near_year days = 400 * days / 146_097 + 1

-- the year that holds the day which is so many days after 0001-01-01
unfoldable pub year_at : ℕ → ℕ
year_at days =
    if nat_le (days_through (near_year days)) days then near_year days + 1 else near_year days

-- the place of that day in its year, from 1
unfoldable pub place_at : ℕ → ℕ
place_at days = days - days_through (year_at days - 1) + 1

-- how many of the first months of a year end before a place in the year
unfoldable pub months_before : ℤ → ℕ → ℕ → ℕ
months_before year place zero = 0
months_before year place (suc months) =
    months_before year place months
    + (if nat_lt (days_of_months year (suc months)) place then 1 else 0)

-- the month that holds the day
unfoldable pub month_at : ℕ → ℕ
month_at days = months_before (pos (year_at days)) (place_at days) 12 + 1

-- the day in its month
unfoldable pub day_at : ℕ → ℕ
day_at days = place_at days - days_of_months (pos (year_at days)) (month_at days - 1)

-- the day which is so many days after 0001-01-01 is the d-th of month m in year y, and the p-th of
-- the year
pub record IsCivilDay (days y m d p : ℕ) : Type 0 where
  pub year : year_at days ≡ y
  pub month : month_at days ≡ m
  pub day : day_at days ≡ d
  pub place : place_at days ≡ p
