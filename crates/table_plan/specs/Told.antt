-- What tables order by what a reading tells.
use Rattle.std.specs.Prelude.{ℕ, Bool, not, if◌then◌else◌, Option, option_map, List, slice_get}
use Rattle.std.specs.Prelude.{[], Some, None}
use Rattle.std.specs.List.{list_all, list_any, find}
use Rattle.exact_fraction.specs.Number.{Rational}
use Rattle.rule_types.specs.declared.action.ActionAt.{ActionAt}
use Rattle.rule_types.specs.declared.condition.Side.{Side}
use Rattle.rule_types.specs.declared.rules.Rules.{Rules}
use Rattle.rule_types.specs.declared.state.State.{State}
use Rattle.rule_meaning.specs.Condition.{left_value}
use Rattle.rule_meaning.specs.Reading.{conditions_at}
use Rattle.table_compiler.specs.declared.part.Part.{Part}
use Rattle.table_compiler.specs.declared.part.Part.TheVariants.{Column, Number}
use Rattle.table_compiler.specs.declared.table.Clause.{Clause}
use Rattle.table_compiler.specs.declared.table.TableRow.{TableRow}
use Rattle.table_compiler.specs.declared.table.LinkTable.{LinkTable}
use Rattle.table_compiler.specs.Meaning.{is_in, condition_holds}

-- What a reading tells: the value of each column, or that it is missing, and whether the condition
-- at a place, from 0, of the rule of an action holds.
pub record Told : Type 0 where
  pub value : Side → Option Rational
  pub truth : ActionAt → ℕ → Bool

-- whether a part of a clause holds, by the values of columns and by the conditions of its rule
unfoldable pub part_told : (Side → Option Rational) → (ℕ → Bool) → Part → Bool
part_told value truth (Column column set) = is_in set (value column)
part_told value truth (Number place) = truth place

-- whether some part of a clause holds
unfoldable pub clause_told : (Side → Option Rational) → (ℕ → Bool) → Clause → Bool
clause_told value truth clause = list_any (part_told value truth) clause.parts

-- whether all clauses hold
abbrev pub all_told : (Side → Option Rational) → (ℕ → Bool) → List Clause → Bool
all_told value truth clauses = list_all (clause_told value truth) clauses

-- whether a row holds: `when` where all clauses hold, `unless` where some clause does not
unfoldable pub row_told : Told → TableRow → Bool
row_told told row =
    if row.negated then not (all_told told.value (told.truth row.action) row.clauses)
    else all_told told.value (told.truth row.action) row.clauses

-- what rows order: the action of the first that holds, or nothing
unfoldable pub ordered_told : Told → List TableRow → Option ActionAt
ordered_told told rows = option_map (λ row. row.action) (find (row_told told) rows)

-- the rows of the table at a place, and none where there is no such table
abbrev pub rows_of : Option LinkTable → List TableRow
rows_of None = []
rows_of (Some table) = table.rows

abbrev pub rows_at : List LinkTable → ℕ → List TableRow
rows_at tables table = rows_of (slice_get tables table)

-- what a reading of rules at a state tells
abbrev pub told_at : Rules → State → Told
told_at x s =
    record {
      value = left_value x s;
      truth = λ at place. condition_holds x s
          (slice_get (conditions_at x.rules at) place);
    }
