-- Plans of tables.
use Rattle.std.specs.Prelude.{◌≡◌, ℕ, Bool, true, Option, Some, None, option_map, option_and_then}
use Rattle.std.specs.Prelude.{List, map, length, slice_get}
use Rattle.exact_fraction.specs.Number.{Rational}
use Rattle.rule_types.specs.declared.action.ActionAt.{ActionAt}
use Rattle.rule_types.specs.declared.condition.Side.{Side}
use Rattle.table_compiler.specs.declared.table.LinkTable.{LinkTable}
use Rattle.table_plan.specs.declared.plan_column.PlanColumn.{PlanColumn}
use Rattle.table_plan.specs.declared.plan_rows.PlanTable.{PlanTable}
use Rattle.table_plan.specs.Pieces.{piece}
use Rattle.table_plan.specs.PlanRows.{first_in, keeps_table}
use Rattle.table_plan.specs.Told.{Told, ordered_told, rows_at}

-- a plan: its columns with their cuts, and its tables
pub record Plan : Type 0 where
  pub columns : List PlanColumn
  pub tables : List PlanTable

-- the piece of each column, by the values of columns: none where the value is missing
unfoldable pub pieces_of : List PlanColumn → (Side → Option Rational) → List (Option ℕ)
pieces_of columns value = map (λ column. option_map (piece column.cuts) (value column.side)) columns

-- what the table at a place of a plan orders, by the pieces of the columns and by the conditions of
-- rules: the action of its first row that holds, or nothing
unfoldable pub first_by : Plan → ℕ → List (Option ℕ) → (ActionAt → ℕ → Bool) → Option ActionAt
first_by plan table pieces truth =
    option_and_then (λ t. first_in pieces truth t.rows) (slice_get plan.tables table)

-- Whether the table at a place of a plan surely orders by these pieces what it ordered by others:
-- no column of it has another piece, and no part of it is a condition by its place.
abbrev pub keeps_by : Option PlanTable → List (Option ℕ) → List (Option ℕ) → Bool
keeps_by None old new = true
keeps_by (Some table) old new = keeps_table table old new

unfoldable pub keeps_order : Plan → ℕ → List (Option ℕ) → List (Option ℕ) → Bool
keeps_order plan table old new = keeps_by (slice_get plan.tables table) old new

-- Tables are planned: whatever a reading tells, the plan orders by the pieces of its columns what
-- the tables order.
pub record IsPlanOf (plan : Plan) (tables : List LinkTable) : Type 0 where
  pub orders : (table : ℕ) (told : Told)
      → first_by plan table (pieces_of plan.columns told.value) told.truth
      ≡ ordered_told told (rows_at tables table)
  pub count : length plan.tables ≡ length tables
