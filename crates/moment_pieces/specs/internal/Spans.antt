-- Runs of seconds, which are counted from the midnight of their first day.
use Rattle.std.specs.Prelude.{◌≡◌, ℕ, ◌-◌, ◌%◌, ◌^◌, ◌≤◌, ◌==◌, nat_le, Bool, true, false, not}
use Rattle.std.specs.Prelude.{◌&&◌, ◌||◌, Option, None, Some, ℤ, pos, ◌+ℤ◌, ◌-ℤ◌, ◌*ℤ◌, int_lt}
use Rattle.std.specs.Prelude.{unsigned_abs, List, ◌∷◌}
use Rattle.exact_fraction.specs.Moments.{IsMoment}
use Rattle.exact_fraction.specs.Number.{Rational}
use Rattle.rule_types.specs.declared.rules.Rules.{Rules}
use Rattle.rule_meaning.specs.Clock.{day_of}
use Rattle.moment_pieces.specs.Pieces.{later_firsts}
use Rattle.moment_pieces.specs.declared.spans.Span.{Span}
use Rattle.moment_pieces.specs.declared.starts.Starts.{Starts}
use Rattle.moment_pieces.specs.declared.turns.Scale.{Scale}
use Rattle.moment_pieces.specs.internal.Starts.{IsDaily, AreSingle, begins}
use Rattle.moment_pieces.specs.internal.Turns.{stands_in, used_turn}

-- a run of moments of the years 1 to 9999
pub record IsSpan (span : Span) : Type 0 where
  pub from_is : span.from ≡ span.midnight +ℤ pos span.first
  pub from_fits : IsMoment span.from
  pub to_fits : IsMoment (span.midnight +ℤ pos span.last)
  pub order : span.first ≤ span.last
  pub bound : span.last ≤ 2 ^ 62

-- the run from one moment to another, in a simulation that begins at a start
pub record IsRunOf (start from to : ℤ) (span : Span) : Type 0 where
  pub fits : IsSpan span
  pub from_is : span.from ≡ from
  pub to_is : to ≡ span.midnight +ℤ pos span.last
  pub midnight : span.midnight ≡ day_of from *ℤ pos 86400
  pub start_is : span.start ≡ start -ℤ span.midnight

abbrev pub IsSpanOf : ℤ → ℤ → ℤ → Option Span → Type 0
IsSpanOf start from to None = int_lt to from ≡ true
IsSpanOf start from to (Some span) = (int_lt to from ≡ false) × IsRunOf start from to span

-- the scale of each day, and the scale of a run
abbrev pub day_scale : Rational → Scale
day_scale hours = record { daily = true; step = hours; shift = pos 0; limit = 86399 }

abbrev pub run_scale : Rational → Span → Scale
run_scale hours span =
    record { daily = false; step = hours; shift = span.start; limit = span.last }

-- a list has the seconds of each day at which pieces begin, for the rules of some numbers
pub record AreDaily (x : Rules) (used : List ℕ) (hours : Rational) (daily : List ℕ)
    : Type 0 where
  pub fits : IsDaily daily
  pub is : (s : ℕ) → stands_in daily s
      ≡ (s == 0 || (used_turn x used (day_scale hours) s && nat_le s 86399))

-- the same of both lists
pub record AreStarts (x : Rules) (used : List ℕ) (hours : Rational) (span : Span)
    (starts : Starts) : Type 0 where
  pub daily : AreDaily x used hours starts.daily.items
  pub singles : AreSingle starts.daily.items starts.singles.items
  pub is : (m : ℕ) → stands_in starts.singles.items m
      ≡ ((used_turn x used (run_scale hours span) m && nat_le m span.last)
      && not (stands_in starts.daily.items (m % 86400)))

-- whether a piece begins at a second, of numbers that are counted from a midnight
abbrev pub begins_at : List ℕ → List ℕ → ℤ → ℤ → Bool
begins_at daily singles midnight second =
    begins daily singles (unsigned_abs (second -ℤ midnight))

-- the first seconds of the pieces that begin at the first second of a run and at some numbers
unfoldable pub firsts_from : List ℕ → List ℕ → Span → List ℤ
firsts_from daily singles span =
    span.from
    ∷ later_firsts (begins_at daily singles span.midnight) span.from (span.last - span.first)
