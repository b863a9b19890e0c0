-- Dates and days of a year, as they are written.
use Rattle.std.specs.Prelude.{ℕ, Bool, ◌&&◌, nat_le, if◌then◌else◌, List, Option, None, Some, ℤ, pos}
use Rattle.std.specs.Option.{option_or}
use Rattle.jiff_core.specs.Calendar.{days_in_month, days_from_civil, day_of_year}
use Rattle.num_text.specs.Bytes.{slash, hyphen}
use Rattle.num_text.specs.Fields.{◌>>=◌, field, past, is_end, last_number}

-- the calendar has this day, in a year from 1 to 9999
abbrev pub is_day : ℕ → ℕ → ℕ → Bool
is_day year month day =
    nat_le 1 year && nat_le year 9999
    && nat_le 1 month && nat_le month 12
    && nat_le 1 day && nat_le day (days_in_month (pos year) month)

-- the day number of a year, month and day, 0 for 1970-01-01, if the calendar has the day
abbrev pub day_number : ℕ → ℕ → ℕ → Option ℤ
day_number year month day =
    if is_day year month day then Some (days_from_civil (pos year) month day) else None

-- a day number, and what stands behind it
pub record Dated : Type 0 where
  pub day : ℤ
  pub rest : List ℕ

-- the day that a text begins with as month, day and year, with a separator between: one or two
-- digits, one or two and four (the form is that of the SWMM 5.2 manual, dates of the input file)
unfoldable pub month_day_year : ℕ → List ℕ → Option Dated
month_day_year separator text = do
  month ← field 1 2 text
  behind_month ← past separator month.rest
  day ← field 1 2 behind_month
  behind_day ← past separator day.rest
  year ← field 4 4 behind_day
  number ← day_number year.number month.number day.number
  Some (record { day = number; rest = year.rest })

-- the same as year, month and day with hyphens: four digits, two and two (the form is that of ISO
-- 8601)
unfoldable pub year_month_day : List ℕ → Option Dated
year_month_day text = do
  year ← field 4 4 text
  behind_year ← past hyphen year.rest
  month ← field 2 2 behind_year
  behind_month ← past hyphen month.rest
  day ← field 2 2 behind_month
  number ← day_number year.number month.number day.number
  Some (record { day = number; rest = day.rest })

-- the day of a text that ends with it
abbrev pub last_day : Option Dated → Option ℤ
last_day found = found >>= λ dated. if is_end dated.rest then Some dated.day else None

-- the day number of a date: month, day and year with slashes between, or with hyphens (the form is
-- that of the SWMM 5.2 manual, dates of the input file)
abbrev pub date_of : List ℕ → Option ℤ
date_of text =
    option_or (last_day (month_day_year slash text)) (last_day (month_day_year hyphen text))

-- the place of a day in a year of 365 days, from 1
abbrev pub place_in_year : ℕ → ℕ → Option ℕ
place_in_year month day =
    if is_day 2001 month day then Some (day_of_year (pos 2001) month day) else None

-- month and day with a slash between, as a place in a year of 365 days (the form is that of the
-- SWMM 5.2 manual, control rules)
unfoldable pub month_and_day : List ℕ → Option ℕ
month_and_day text = do
  month ← field 1 2 text
  behind_month ← past slash month.rest
  day ← last_number (field 1 2 behind_month)
  place_in_year month.number day

-- one to three digits, from 1 to 366 (the form is that of the SWMM 5.2 manual, control rules)
unfoldable pub day_by_number : List ℕ → Option ℕ
day_by_number text = do
  day ← last_number (field 1 3 text)
  if nat_le 1 day && nat_le day 366 then Some day else None

-- the day of the year that a text writes in one of these two forms
abbrev pub day_of_year_of : List ℕ → Option ℕ
day_of_year_of text = option_or (month_and_day text) (day_by_number text)
