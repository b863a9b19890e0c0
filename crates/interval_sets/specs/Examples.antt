-- Intervals of worked examples.
use Rattle.std.specs.Prelude.{ℕ, true, false, pos}
use Rattle.exact_fraction.specs.Number.{whole}
use Rattle.interval_sets.specs.declared.interval.Bound.TheVariants as end
use Rattle.interval_sets.specs.declared.interval.Interval.{Interval}

-- what lies between two whole numbers, without them
abbrev pub open_interval : ℕ → ℕ → Interval
open_interval m n =
    record { low = end.Bound (whole (pos m)) true; high = end.Bound (whole (pos n)) true }

-- what lies between two whole numbers, with the second
abbrev pub half_open : ℕ → ℕ → Interval
half_open m n =
    record { low = end.Bound (whole (pos m)) true; high = end.Bound (whole (pos n)) false }
