-- Time values, in hours.
use Rattle.std.specs.Prelude.{◌≡◌, ℕ, ◌%◌, ◌||◌, ◌==◌, IsTrue, List, Option, pos}
use Rattle.std.specs.Option.{option_or, option_map}
use Rattle.exact_fraction.specs.Number.{Rational, den, ratio, whole, zero}
use Rattle.exact_fraction.specs.Order.{◌≤ℚ◌}
use Rattle.num_text.specs.Clocks.{clock_below}
use Rattle.num_text.specs.Pointed.{decimal_up_to}

-- hours as digits, with or without a point and one to nine decimals, of which there are at most a
-- million
abbrev pub hours_in_digits : List ℕ → Option Rational
hours_in_digits text = decimal_up_to 1_000_000 text

-- what hours in digits are: from 0 to 1,000,000, and a multiple of 10^-9, so that in lowest terms
-- the denominator divides 10^9
--
pub record IsReadHours (q : Rational) : Type 0 where
  pub least : zero ≤ℚ q
  pub most : q ≤ℚ whole (pos 1_000_000)
  pub multiple : 1_000_000_000 % den q ≡ 0

-- hours as `h:mm` or `h:mm:ss`, with one to seven digits of hours (the forms are those of the SWMM
-- 5.2 manual, times of the control rules)
abbrev pub hours_on_clock : List ℕ → Option Rational
hours_on_clock text =
    option_map (λ second. ratio (pos second) 3600) (clock_below 7 3_600_000_001 text)

-- the hours of a time value, of which there are at most a million (the forms are those of the SWMM
-- 5.2 manual, times of the control rules)
abbrev pub time_of : List ℕ → Option Rational
time_of text = option_or (hours_on_clock text) (hours_in_digits text)

-- what a time value is: from 0 to 1,000,000 hours, and a multiple of 10^-9 of an hour, or of a
-- second, so that in lowest terms the denominator divides 10^9 or 3,600
pub record IsReadTime (q : Rational) : Type 0 where
  pub least : zero ≤ℚ q
  pub most : q ≤ℚ whole (pos 1_000_000)
  pub exact : IsTrue (1_000_000_000 % den q == 0 || 3_600 % den q == 0)
