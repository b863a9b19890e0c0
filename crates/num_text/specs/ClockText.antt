-- How times of the clock are written: `h:mm` or `h:mm:ss`, with minutes and seconds of one or two
-- digits below 60 (SWMM 5.2 manual, times of the input file).
use Rattle.std.specs.Prelude.{◌≡◌, ℕ, ◌+◌, ◌*◌, ◌<◌, List, [], ◌∷◌, ◌++◌, Option, None, Some}
use Rattle.std.specs.Str.Parse.{digits_value}
use Rattle.num_text.specs.Bytes.{colon}
use Rattle.num_text.specs.NumberText.{IsDigits}

-- the parts of a time of the clock: the digits of its hours, of its minutes, and of its seconds
-- where they are written
pub record ClockParts : Type 0 where
  pub hours : List ℕ
  pub minutes : List ℕ
  pub seconds : Option (List ℕ)

-- a colon and the seconds, or neither
abbrev pub seconds_text : Option (List ℕ) → List ℕ
seconds_text None = []
seconds_text (Some digits) = colon ∷ digits

-- the parts with a colon between
abbrev pub clock_text : ClockParts → List ℕ
clock_text p = p.hours ++ colon ∷ (p.minutes ++ seconds_text p.seconds)

-- one or two digits below 60
pub record IsSixtieth (digits : List ℕ) : Type 0 where
  pub digits_alone : IsDigits 1 2 digits
  pub below_60 : digits_value 10 digits < 60

-- the same where seconds are written
abbrev pub AreSeconds : Option (List ℕ) → Type 0
AreSeconds None = Unit
AreSeconds (Some digits) = IsSixtieth digits

-- a text is a time of the clock with these parts, with at most `most` digits of hours
pub record IsClockText (most : ℕ) (text : List ℕ) (p : ClockParts) : Type 0 where
  pub joined : text ≡ clock_text p
  pub hours : IsDigits 1 most p.hours
  pub minutes : IsSixtieth p.minutes
  pub seconds : AreSeconds p.seconds

-- the seconds that are written, 0 where none are
abbrev pub written_seconds : Option (List ℕ) → ℕ
written_seconds None = 0
written_seconds (Some digits) = digits_value 10 digits

-- the value of a time of the clock, in seconds
abbrev pub seconds_of_parts : ClockParts → ℕ
seconds_of_parts p =
    3600 * digits_value 10 p.hours + 60 * digits_value 10 p.minutes + written_seconds p.seconds
