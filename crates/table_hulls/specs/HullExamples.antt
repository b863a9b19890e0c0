-- Intervals for worked examples of hulls.
use Rattle.std.specs.Prelude.{Bool}
use Rattle.exact_fraction.specs.Number.{Rational}
use Rattle.interval_sets.specs.declared.interval.Bound.TheVariants as end
use Rattle.interval_sets.specs.declared.interval.Interval.{Interval}

-- the interval between two numbers, each with whether it is left out
abbrev pub between_ends : Rational → Bool → Rational → Bool → Interval
between_ends a left_a b left_b = record { low = end.Bound a left_a; high = end.Bound b left_b }
