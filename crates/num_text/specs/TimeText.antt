-- How time values and steps are written: in digits, or as a time of the clock (SWMM 5.2 manual,
-- times of the control rules, and [OPTIONS]).
use Rattle.std.specs.Prelude.{◌≡◌, ℕ, ◌≤◌, ◌⊎◌, List, pos}
use Rattle.exact_fraction.specs.Number.{Rational, ratio, whole, zero}
use Rattle.exact_fraction.specs.Order.{◌<ℚ◌}
use Rattle.num_text.specs.ClockText.{ClockParts, IsClockText, seconds_of_parts}
use Rattle.num_text.specs.DecimalText.{DecimalParts, IsDecimalText, IsAtMost, decimal_value}

-- a text is this number as a decimal that is at most `most`
pub record IsDecimalUpTo (most : ℕ) (text : List ℕ) (q : Rational) : Type 0 where
  pub parts : DecimalParts
  pub decimal : IsDecimalText text parts
  pub at_most : IsAtMost most parts
  pub value : decimal_value parts ≡ q

-- a text is so many seconds as a time of the clock with one to seven digits of hours, and they are
-- at most `most`
pub record IsClockUpTo (most : ℕ) (text : List ℕ) (seconds : ℕ) : Type 0 where
  pub parts : ClockParts
  pub clock : IsClockText 7 text parts
  pub value : seconds_of_parts parts ≡ seconds
  pub at_most : seconds ≤ most

-- a text is a time value of so many hours: in digits or as a time of the clock, at most 1,000,000
-- hours
abbrev pub IsTimeText : List ℕ → Rational → Type 0
IsTimeText text q =
    ((seconds : ℕ) × IsClockUpTo 3_600_000_000 text seconds × (ratio (pos seconds) 3600 ≡ q))
    ⊎ IsDecimalUpTo 1_000_000 text q

-- a text is a step of so many seconds in digits: above 0 and at most a day
abbrev pub IsStepText : List ℕ → Rational → Type 0
IsStepText text q = IsDecimalUpTo 86_400 text q × (zero <ℚ q)

-- a text is a routing step of so many seconds: in digits or as a time of the clock, above 0 and at
-- most a day
abbrev pub IsRoutingStepText : List ℕ → Rational → Type 0
IsRoutingStepText text q =
    (((seconds : ℕ) × IsClockUpTo 86_400 text seconds × (whole (pos seconds) ≡ q))
    ⊎ IsDecimalUpTo 86_400 text q)
    × (zero <ℚ q)
