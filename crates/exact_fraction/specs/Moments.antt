-- Moments: whole seconds since 1970-01-01T00:00:00, without leap seconds and without zones, in the
-- years 1 to 9999.
use Rattle.std.specs.Prelude.{ℕ, ◌+◌, ◌-◌, ◌*◌, ◌/◌, ◌&&◌, if◌then◌else◌, ℤ}
use Rattle.std.specs.Prelude.{pos, neg_ℤ, ◌≤ℤ◌, int_le, Option, Some, None}

-- the days of the years 1 to `year` of the Gregorian calendar
abbrev pub days_through : ℕ → ℕ
days_through year = 365 * year + year / 4 - year / 100 + year / 400

-- the first second of the year 1
abbrev pub first_second : ℤ
first_second = neg_ℤ (pos (86400 * days_through 1969))

-- the last second of the year 9999
abbrev pub last_second : ℤ
last_second = pos (86400 * (days_through 9999 - days_through 1969) - 1)

-- the second lies in the years 1 to 9999
pub record IsMoment (second : ℤ) : Type 0 where
  pub early : first_second ≤ℤ second
  pub late : second ≤ℤ last_second

-- the moment of a second, where it lies in the years 1 to 9999
unfoldable pub moment_at : ℤ → Option ℤ
moment_at second =
    if int_le first_second second && int_le second last_second then Some second else None
