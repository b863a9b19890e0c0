-- Times of the clock and moments, as they are written.
use Rattle.std.specs.Prelude.{ℕ, ◌+◌, ◌*◌, nat_lt, if◌then◌else◌, List, [], ◌∷◌, Option, None, Some, ℤ, pos, ◌+ℤ◌, ◌*ℤ◌}
use Rattle.std.specs.Option.{option_or}
use Rattle.num_text.specs.Bytes.{colon, slash, capital_t, space}
use Rattle.num_text.specs.Fields.{◌>>=◌, Field, field, field_below, past, last_number}
use Rattle.num_text.specs.Dates.{Dated, year_month_day, month_day_year}

-- one or two digits below 60: minutes or seconds
abbrev pub sixtieth : List ℕ → Option Field
sixtieth text = field_below 1 2 60 text

-- the seconds behind hours and minutes: a colon and one or two digits below 60, or none
unfoldable pub seconds_part : List ℕ → Option ℕ
seconds_part [] = Some 0
seconds_part (byte ∷ bytes) = past colon (byte ∷ bytes) >>= λ behind. last_number (sixtieth behind)

-- the seconds of `h:mm` or `h:mm:ss`, with one to `most` digits of hours (the forms are those of
-- the SWMM 5.2 manual, times of the input file)
unfoldable pub clock : ℕ → List ℕ → Option ℕ
clock most text = do
  hours ← field 1 most text
  behind_hours ← past colon hours.rest
  minutes ← sixtieth behind_hours
  seconds ← seconds_part minutes.rest
  Some (3600 * hours.number + 60 * minutes.number + seconds)

-- the same below `limit` seconds
abbrev pub clock_below : ℕ → ℕ → List ℕ → Option ℕ
clock_below most limit text =
    clock most text >>= λ second. if nat_lt second limit then Some second else None

-- the day that a moment begins with: `YYYY-MM-DD`, or month, day and year with slashes
abbrev pub moment_day : List ℕ → Option Dated
moment_day text = option_or (year_month_day text) (month_day_year slash text)

-- what stands behind the `T` or the space between the day and the time of a moment
abbrev pub past_gap : List ℕ → Option (List ℕ)
past_gap text = option_or (past capital_t text) (past space text)

-- the seconds since 1970-01-01T00:00:00 of a second of a day
abbrev pub seconds_at : ℤ → ℕ → ℤ
seconds_at day second = day *ℤ pos 86_400 +ℤ pos second

-- the seconds since 1970-01-01T00:00:00 of a moment: a day, a `T` or a space, and a time below 24
-- hours
unfoldable pub moment_of : List ℕ → Option ℤ
moment_of text = do
  date ← moment_day text
  time ← past_gap date.rest
  second ← clock_below 2 86_400 time
  Some (seconds_at date.day second)
