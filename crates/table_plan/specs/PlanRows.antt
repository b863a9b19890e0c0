-- Whether the rows of a plan hold, by the pieces of its columns.
use Rattle.std.specs.Prelude.{◌≡◌, ℕ, Bool, true, false, not, ◌&&◌, ◌==◌, nat_le, IsTrue, All}
use Rattle.std.specs.Prelude.{if◌then◌else◌, Option, Some, None, option_map, List, [], ◌∷◌}
use Rattle.std.specs.Prelude.{slice_get}
use Rattle.std.specs.List.{list_all, list_any, find, flat_map}
use Rattle.rule_types.specs.declared.action.ActionAt.{ActionAt}
use Rattle.table_plan.specs.declared.plan_rows.PlanPart.{PlanPart}
use Rattle.table_plan.specs.declared.plan_rows.PlanPart.TheVariants.{Pieces, Number}
use Rattle.table_plan.specs.declared.plan_rows.PlanClause.{PlanClause}
use Rattle.table_plan.specs.declared.plan_rows.PlanRow.{PlanRow}
use Rattle.table_plan.specs.declared.plan_rows.PlanTable.{PlanTable}

-- the piece of a column: none where its value is missing, or where there is no such column
abbrev pub piece_or_none : Option (Option ℕ) → Option ℕ
piece_or_none None = None
piece_or_none (Some piece) = piece

abbrev pub piece_at : List (Option ℕ) → ℕ → Option ℕ
piece_at pieces column = piece_or_none (slice_get pieces column)

-- whether a piece lies in a range, of which both ends are part: a missing one lies in none
abbrev pub lies_among : ℕ → ℕ → Option ℕ → Bool
lies_among first last None = false
lies_among first last (Some piece) = nat_le first piece && nat_le piece last

-- whether a part holds, by the pieces and by the conditions of its rule
unfoldable pub part_by : List (Option ℕ) → (ℕ → Bool) → PlanPart → Bool
part_by pieces truth (Pieces range) =
    lies_among range.first range.last (piece_at pieces range.column)
part_by pieces truth (Number place) = truth place

-- whether some part of a clause holds
unfoldable pub clause_by : List (Option ℕ) → (ℕ → Bool) → PlanClause → Bool
clause_by pieces truth clause = list_any (part_by pieces truth) clause.parts

-- whether all clauses hold
abbrev pub all_by : List (Option ℕ) → (ℕ → Bool) → List PlanClause → Bool
all_by pieces truth clauses = list_all (clause_by pieces truth) clauses

-- whether a row holds: `when` where all clauses hold, `unless` where some clause does not
unfoldable pub row_by : List (Option ℕ) → (ActionAt → ℕ → Bool) → PlanRow → Bool
row_by pieces truth row =
    if row.negated then not (all_by pieces (truth row.action) row.clauses)
    else all_by pieces (truth row.action) row.clauses

-- what rows order: the action of the first that holds, or nothing
unfoldable pub first_in : List (Option ℕ) → (ActionAt → ℕ → Bool) → List PlanRow → Option ActionAt
first_in pieces truth rows = option_map (λ row. row.action) (find (row_by pieces truth) rows)

-- ---- what rows read

-- the columns that a part reads, and whether it is a condition by its place
abbrev pub part_columns : PlanPart → List ℕ
part_columns (Pieces range) = range.column ∷ []
part_columns (Number place) = []

abbrev pub is_number : PlanPart → Bool
is_number (Pieces range) = false
is_number (Number place) = true

-- the same of clauses and rows
abbrev pub clause_columns : PlanClause → List ℕ
clause_columns clause = flat_map part_columns clause.parts

abbrev pub row_columns : PlanRow → List ℕ
row_columns row = flat_map clause_columns row.clauses

abbrev pub clause_has_number : PlanClause → Bool
clause_has_number clause = list_any is_number clause.parts

abbrev pub row_has_number : PlanRow → Bool
row_has_number row = list_any clause_has_number row.clauses

-- a table knows what its rows read: each column is listed, and it says whether some part is a
-- condition by its place
pub record KnowsReads (table : PlanTable) : Type 0 where
  pub columns : All (λ column. IsTrue (list_any (λ c. c == column) table.columns))
      (flat_map row_columns table.rows)
  pub numbers : table.by_number ≡ list_any row_has_number table.rows

-- ---- whether the first row that holds stays

-- whether two pieces are the same, or both are missing
abbrev pub same_piece : Option ℕ → Option ℕ → Bool
same_piece None None = true
same_piece (Some piece) (Some other) = piece == other
same_piece piece other = false

-- whether no column of a table has another piece, and no part of it is a condition by its place
unfoldable pub keeps_table : PlanTable → List (Option ℕ) → List (Option ℕ) → Bool
keeps_table table old new =
    not table.by_number
    && list_all (λ column. same_piece (piece_at old column) (piece_at new column)) table.columns
