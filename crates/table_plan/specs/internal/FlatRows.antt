-- Flat rows, which are one range of pieces each, as rows of a plan.
use Rattle.std.specs.Prelude.{◌≡◌, [], ◌∷◌, map}
use Rattle.std.specs.Option.{IfSome}
use Rattle.table_plan.specs.declared.piece_rows.PieceRow.{PieceRow}
use Rattle.table_plan.specs.declared.plan_rows.PieceRange.{PieceRange}
use Rattle.table_plan.specs.declared.plan_rows.PlanPart.TheVariants.{Pieces}
use Rattle.table_plan.specs.declared.plan_rows.PlanClause.{PlanClause}
use Rattle.table_plan.specs.declared.plan_rows.PlanRow.{PlanRow}
use Rattle.table_plan.specs.declared.plan_rows.PlanTable.{PlanTable}

-- the clause of one range of pieces
abbrev pub clause_of : PieceRange → PlanClause
clause_of range = record { parts = Pieces range ∷ [] }

-- the row of a plan that a flat one is
unfoldable pub row_of : PieceRow → PlanRow
row_of flat =
    record {
      action = flat.action;
      negated = flat.negated;
      clauses = clause_of flat.range ∷ [];
    }

-- the flat rows of a table, where it has them, are its rows
pub record KnowsFlat (table : PlanTable) : Type 0 where
  pub rows : IfSome table.flat (λ flat. map row_of flat ≡ table.rows)
