-- The columns of the ends of tables: each column once, and its cuts are the numbers of its ends.
use Rattle.std.specs.Prelude.{◌≡◌, Bool, All, List, map}
use Rattle.std.specs.List.{AllPairs, Contains}
use Rattle.exact_fraction.specs.Number.{Rational}
use Rattle.interval_sets.specs.declared.interval.Bound.TheVariants as end
use Rattle.rule_types.specs.declared.condition.Side.{Side}
use Rattle.table_plan.specs.declared.column_ends.ColumnEnd.{ColumnEnd}
use Rattle.table_plan.specs.declared.plan_column.PlanColumn.{PlanColumn}
use Rattle.table_plan.specs.Pieces.{IsCutEnd}

-- no two of these are the same
abbrev pub IsOnce : List Side → Type 0
IsOnce sides = AllPairs (λ side other. ¬ (side ≡ other)) sides

-- a number is an end of a column, left out or not
pub record IsEndOn (ends : List ColumnEnd) (column : Side) (p : Rational) : Type 0 where
  pub left_out : Bool
  pub there : Contains ends (record { side = column; bound = end.Bound p left_out })

-- the column of an end is among columns, and the number of the end, where it is one, is a cut of it
pub record HasColumn (columns : List PlanColumn) (e : ColumnEnd) : Type 0 where
  pub column : PlanColumn
  pub there : Contains columns column
  pub side : column.side ≡ e.side
  pub cut : IsCutEnd column.cuts e.bound

-- columns are those of ends: each of them once, none besides, with all numbers of the column's ends
-- as cuts, and no others
pub record AreColumnsOf (columns : List PlanColumn) (ends : List ColumnEnd) : Type 0 where
  pub once : IsOnce (map (λ column. column.side) columns)
  pub read : All (λ column. Contains (map (λ e. e.side) ends) column.side) columns
  pub cuts : All (λ column. All (IsEndOn ends column.side) column.cuts) columns
  pub all : All (HasColumn columns) ends
