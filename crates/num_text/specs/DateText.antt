-- How dates are written: month, day and year with a slash or a hyphen between (SWMM 5.2 manual,
-- dates of the input file), or year, month and day with hyphens between (ISO 8601); and how days of
-- a year are written: month and day with a slash between, or the number of the day (SWMM 5.2
-- manual, control rules).
use Rattle.std.specs.Prelude.{◌≡◌, ℕ, ◌≤◌, IsTrue, List, ◌∷◌, ◌++◌, ℤ, pos}
use Rattle.std.specs.Str.Parse.{digits_value}
use Rattle.jiff_core.specs.Calendar.{days_from_civil, day_of_year}
use Rattle.num_text.specs.Bytes.{slash, hyphen}
use Rattle.num_text.specs.Dates.{is_day}
use Rattle.num_text.specs.NumberText.{IsDigits}

-- the parts of a date: the digits of its month, of its day and of its year
pub record DateParts : Type 0 where
  pub month : List ℕ
  pub day : List ℕ
  pub year : List ℕ

-- the calendar has the day, in a year from 1 to 9999
abbrev pub IsReal : DateParts → Type 0
IsReal p =
    IsTrue (is_day (digits_value 10 p.year) (digits_value 10 p.month) (digits_value 10 p.day))

-- a text is month, day and year with this separator between: one or two digits, one or two, and
-- four
pub record IsDateText (separator : ℕ) (text : List ℕ) (p : DateParts) : Type 0 where
  pub joined : text ≡ p.month ++ separator ∷ (p.day ++ separator ∷ p.year)
  pub month : IsDigits 1 2 p.month
  pub day : IsDigits 1 2 p.day
  pub year : IsDigits 4 4 p.year
  pub real : IsReal p

-- a text is year, month and day with hyphens between: four digits, two, and two
pub record IsIsoDateText (text : List ℕ) (p : DateParts) : Type 0 where
  pub joined : text ≡ p.year ++ hyphen ∷ (p.month ++ hyphen ∷ p.day)
  pub year : IsDigits 4 4 p.year
  pub month : IsDigits 2 2 p.month
  pub day : IsDigits 2 2 p.day
  pub real : IsReal p

-- the day number of a date, 0 for 1970-01-01
abbrev pub day_of_parts : DateParts → ℤ
day_of_parts p =
    days_from_civil (pos (digits_value 10 p.year)) (digits_value 10 p.month) (digits_value 10 p.day)

-- the parts of a day of a year: the digits of its month and of its day in the month
pub record MonthDayParts : Type 0 where
  pub month : List ℕ
  pub day : List ℕ

-- a text is month and day with a slash between, of a year of 365 days
pub record IsMonthDayText (text : List ℕ) (p : MonthDayParts) : Type 0 where
  pub joined : text ≡ p.month ++ slash ∷ p.day
  pub month : IsDigits 1 2 p.month
  pub day : IsDigits 1 2 p.day
  pub real : IsTrue (is_day 2001 (digits_value 10 p.month) (digits_value 10 p.day))

-- its place in a year of 365 days, from 1
abbrev pub place_of_parts : MonthDayParts → ℕ
place_of_parts p = day_of_year (pos 2001) (digits_value 10 p.month) (digits_value 10 p.day)

-- a text is the number of a day in its year: one to three digits, from 1 to 366
pub record IsDayNumberText (text : List ℕ) : Type 0 where
  pub digits : IsDigits 1 3 text
  pub first : 1 ≤ digits_value 10 text
  pub last : digits_value 10 text ≤ 366
