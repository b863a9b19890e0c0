-- Steps, in seconds.
use Rattle.std.specs.Prelude.{◌≡◌, ℕ, ◌%◌, if◌then◌else◌, List, Option, None, Some, pos}
use Rattle.std.specs.Option.{option_or, option_map}
use Rattle.exact_fraction.specs.Number.{Rational, den, whole, zero}
use Rattle.exact_fraction.specs.Order.{◌≤ℚ◌, ◌<ℚ◌, less}
use Rattle.num_text.specs.Fields.{◌>>=◌}
use Rattle.num_text.specs.Clocks.{clock_below}
use Rattle.num_text.specs.Pointed.{decimal_up_to}

-- a number above 0, and nothing else
abbrev pub positive : Rational → Option Rational
positive q = if less zero q then Some q else None

-- a step as digits, with or without a point and one to nine decimals: above 0 and at most a day
unfoldable pub step_of : List ℕ → Option Rational
step_of text = decimal_up_to 86_400 text >>= λ step. positive step

-- seconds as `h:mm` or `h:mm:ss`, at most a day
abbrev pub seconds_on_clock : List ℕ → Option Rational
seconds_on_clock text = option_map (λ second. whole (pos second)) (clock_below 7 86_401 text)

-- seconds in one of these two forms, at most a day
abbrev pub seconds_of : List ℕ → Option Rational
seconds_of text = option_or (seconds_on_clock text) (decimal_up_to 86_400 text)

-- a routing step: such seconds, above 0 (the forms are those of the SWMM 5.2 manual, [OPTIONS])
unfoldable pub routing_step_of : List ℕ → Option Rational
routing_step_of text = seconds_of text >>= λ step. positive step

-- what a step is: above 0, at most a day of 86,400 seconds, and a multiple of 10^-9, so that in
-- lowest terms the denominator divides 10^9
pub record IsReadStep (q : Rational) : Type 0 where
  pub above : zero <ℚ q
  pub most : q ≤ℚ whole (pos 86_400)
  pub multiple : 1_000_000_000 % den q ≡ 0
