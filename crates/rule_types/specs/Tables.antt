-- Curves and series as data.
use Rattle.std.specs.Prelude.{ℕ, ◌<◌, Bool, Option, Some, None, List, length, slice_get, IsSomeAnd, All}
use Rattle.std.specs.List.{AllAdjacentBelow}
use Rattle.exact_fraction.specs.Order.{◌<ℚ◌}
use Rattle.rule_types.specs.declared.action.What.{What}
use Rattle.rule_types.specs.declared.action.What.TheVariants.{Constant, Curve, Series, Pid}
use Rattle.rule_types.specs.declared.rule.Rule.{Rule}
use Rattle.rule_types.specs.declared.table.Point.{Point}
use Rattle.rule_types.specs.Reading.{rule_actions}

-- a curve under its name, with its points by rising x (SWMM 5.2 manual, [CURVES])
pub record CurveTable : Type 0 where
  pub name : List ℕ
  pub points : List Point

-- a series under its name; its x are hours, counted from 1970-01-01 where it is dated and else from the start (SWMM 5.2
-- manual, [TIMESERIES])
pub record SeriesTable : Type 0 where
  pub name : List ℕ
  pub dated : Bool
  pub points : List Point

-- The curves and the series by their numbers, counted from 0 in the order of their first lines. Under the number of a table
-- that is not held there is nothing.
pub record TableSet : Type 0 where
  pub curves : List (Option CurveTable)
  pub series : List (Option SeriesTable)

-- the curve and the series under a number, where they are held
abbrev pub held : {A : Type 0} → Option (Option A) → Option A
held None = None
held (Some table) = table

abbrev pub curve_at : TableSet → ℕ → Option CurveTable
curve_at tables number = held (slice_get tables.curves number)

abbrev pub series_at : TableSet → ℕ → Option SeriesTable
series_at tables number = held (slice_get tables.series number)

-- points that a table can have: at least one, with x that rise strictly
pub record IsPointList (points : List Point) : Type 0 where
  pub pointed : 0 < length points
  pub rising : AllAdjacentBelow (λ p q. p.x <ℚ q.x) points (length points)

-- the table that an action names is held, with points that a table can have
abbrev pub HoldsTableOf : TableSet → What → Type 0
HoldsTableOf tables (Constant q) = Unit {0}
HoldsTableOf tables (Curve number) = IsSomeAnd (curve_at tables number.index) (λ table. IsPointList table.points)
HoldsTableOf tables (Series number) = IsSomeAnd (series_at tables number.index) (λ table. IsPointList table.points)
HoldsTableOf tables (Pid set number) = Unit {0}

-- tables hold every curve and series that rules name, each with points that a table can have
abbrev pub HoldsTables : TableSet → List Rule → Type 0
HoldsTables tables = All (λ rule. All (λ action. HoldsTableOf tables action.what) (rule_actions rule))
