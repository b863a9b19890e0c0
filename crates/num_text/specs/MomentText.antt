-- How moments are written: a date, a `T` or a space, and a time of day below 24 hours.
use Rattle.std.specs.Prelude.{◌≡◌, ℕ, ◌<◌, ◌⊎◌, List, ◌∷◌, ◌++◌, ℤ}
use Rattle.num_text.specs.Bytes.{slash, capital_t, space}
use Rattle.num_text.specs.Clocks.{seconds_at}
use Rattle.num_text.specs.ClockText.{ClockParts, IsClockText, seconds_of_parts}
use Rattle.num_text.specs.DateText.{DateParts, IsDateText, IsIsoDateText, day_of_parts}

-- the parts of a moment: its date, with the parts of the date; what stands between; and its time,
-- with the parts of the time
pub record MomentParts : Type 0 where
  pub date : List ℕ
  pub date_parts : DateParts
  pub gap : ℕ
  pub time : List ℕ
  pub time_parts : ClockParts

-- a text is a moment with these parts: the date in the form of ISO 8601 or with slashes, and one or
-- two digits of hours
pub record IsMomentText (text : List ℕ) (p : MomentParts) : Type 0 where
  pub joined : text ≡ p.date ++ p.gap ∷ p.time
  pub date : IsIsoDateText p.date p.date_parts ⊎ IsDateText slash p.date p.date_parts
  pub gap : (p.gap ≡ capital_t) ⊎ (p.gap ≡ space)
  pub time : IsClockText 2 p.time p.time_parts
  pub within_day : seconds_of_parts p.time_parts < 86_400

-- the value of a moment, in seconds since 1970-01-01T00:00:00
abbrev pub moment_of_parts : MomentParts → ℤ
moment_of_parts p = seconds_at (day_of_parts p.date_parts) (seconds_of_parts p.time_parts)
