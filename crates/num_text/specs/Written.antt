-- Written digits, and written moments.
use Rattle.std.specs.Prelude.{ℕ, zero, suc, ◌+◌, ◌/◌, ◌%◌, List, [], ◌∷◌, ◌++◌, codes, ℤ, ◌-ℤ◌, unsigned_abs}
use Rattle.exact_fraction.specs.Moments.{first_second}
use Rattle.num_text.specs.CivilDays.{year_at, month_at, day_at}
use Rattle.num_text.specs.Bytes.{zero_digit}

-- the last `count` digits of a number
unfoldable pub places : ℕ → ℕ → List ℕ
places zero number = []
places (suc count) number = places count (number / 10) ++ (zero_digit + number % 10) ∷ []

-- the seconds from the first moment, 0001-01-01T00:00:00
abbrev pub seconds_after_first : ℤ → ℕ
seconds_after_first second = unsigned_abs (second -ℤ first_second)

-- a day that is so many days after 0001-01-01, as `YYYY-MM-DD` (ISO 8601)
abbrev pub written_day : ℕ → List ℕ
written_day days =
    places 4 (year_at days) ++ codes "-" ++ places 2 (month_at days) ++ codes "-"
    ++ places 2 (day_at days)

-- a second of a day, as `hh:mm:ss` (ISO 8601)
abbrev pub written_time : ℕ → List ℕ
written_time second =
    places 2 (second / 3600) ++ codes ":" ++ places 2 (second / 60 % 60) ++ codes ":"
    ++ places 2 (second % 60)

-- the moment of a second, as `YYYY-MM-DDThh:mm:ss`
unfoldable pub written_moment : ℤ → List ℕ
written_moment second =
    written_day (seconds_after_first second / 86_400) ++ codes "T"
    ++ written_time (seconds_after_first second % 86_400)
