-- What a hull is asked over, and the values from a point on, back to front.
use Rattle.std.specs.Prelude.{Option, None, Result, Ok, List, [], ◌∷◌, ⊤, pos, neg_ℤ, ◌≤ℤ◌}
use Rattle.exact_fraction.specs.Moments.{IsMoment}
use Rattle.exact_fraction.specs.declared.error.Overflow.{Overflow}
use Rattle.interval_sets.specs.declared.interval.Interval.{Interval}
use Rattle.rule_types.specs.declared.table.Point.{Point}
use Rattle.table_hulls.specs.Hulls.{Part, interval_part, seconds_part, values_from}
use Rattle.table_hulls.specs.declared.argument.Argument.{Argument}
use Rattle.table_hulls.specs.declared.argument.SecondRange.{SecondRange}
use Rattle.table_hulls.specs.declared.argument.Argument.TheVariants.{Values, Seconds}

-- the parts of an argument
abbrev pub part_of : Argument → Part
part_of (Values over) = interval_part over
part_of (Seconds seconds) = seconds_part seconds.base seconds.first seconds.last

-- the moments of an argument are moments, and so is the second that they are counted from
pub record HasMoments (range : SecondRange) : Type 0 where
  pub base_low : neg_ℤ (pos 70_000_000_000) ≤ℤ range.base
  pub base_high : range.base ≤ℤ pos 300_000_000_000
  pub first : IsMoment range.first
  pub last : IsMoment range.last

abbrev pub IsArgument : Argument → Type 0
IsArgument (Values over) = ⊤
IsArgument (Seconds range) = HasMoments range

-- the values from the first of some points on
unfoldable pub values_of : Part → List Point → Result (Option Interval) Overflow
values_of part [] = Ok None
values_of part (p ∷ more) = values_from part p more
