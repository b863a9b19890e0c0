-- What is known while tables are planned.
use Rattle.std.specs.Prelude.{◌≡◌, List, [], ◌∷◌}
use Rattle.exact_fraction.specs.Number.{Rational}
use Rattle.interval_sets.specs.declared.interval.Interval.{Interval}
use Rattle.table_compiler.specs.declared.table.LinkTable.{LinkTable}
use Rattle.table_plan.specs.declared.plan_column.PlanColumn.{PlanColumn}
use Rattle.table_plan.specs.declared.plan_rows.PlanTable.{PlanTable}
use Rattle.table_plan.specs.Plan.{pieces_of}
use Rattle.table_plan.specs.PlanRows.{first_in}
use Rattle.table_plan.specs.Told.{Told, ordered_told}
use Rattle.table_plan.specs.Pieces.{IsCutEnd}

-- the ends of an interval, where they are numbers, are cuts
pub record AreCutEnds (cuts : List Rational) (interval : Interval) : Type 0 where
  pub low : IsCutEnd cuts interval.low
  pub high : IsCutEnd cuts interval.high

-- a table of a plan orders by the pieces of the columns what a table orders
pub record PlansTable (columns : List PlanColumn) (table : LinkTable) (plan : PlanTable)
    : Type 0 where
  pub orders : (told : Told) → first_in (pieces_of columns told.value) told.truth plan.rows
      ≡ ordered_told told table.rows

abbrev pub PlansTables : List PlanColumn → List LinkTable → List PlanTable → Type 0
PlansTables columns [] [] = Unit {0}
PlansTables columns [] (plan ∷ plans) = ⊥
PlansTables columns (table ∷ tables) [] = ⊥
PlansTables columns (table ∷ tables) (plan ∷ plans) =
    PlansTable columns table plan × PlansTables columns tables plans
