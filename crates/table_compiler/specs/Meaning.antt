-- What tables order.
use Rattle.std.specs.Prelude.{◌≡◌, ℕ, Bool, true, false, not, ◌&&◌, ◌==◌, if◌then◌else◌, IsTrue}
use Rattle.std.specs.Prelude.{Option, Some, None, option_map, option_and_then, List, [], ◌∷◌}
use Rattle.std.specs.Prelude.{slice_get, All}
use Rattle.std.specs.List.{list_all, list_any, find}
use Rattle.exact_fraction.specs.Number.{Rational}
use Rattle.interval_sets.specs.declared.interval.Interval.{Interval}
use Rattle.interval_sets.specs.Sets.{members, is_normal}
use Rattle.rule_types.specs.declared.action.ActionAt.{ActionAt}
use Rattle.rule_types.specs.declared.condition.Condition.{Condition}
use Rattle.rule_types.specs.declared.rules.Rules.{Rules}
use Rattle.rule_types.specs.declared.state.State.{State}
use Rattle.rule_meaning.specs.Condition.{left_value, holds}
use Rattle.rule_meaning.specs.Formula.{names_stop}
use Rattle.rule_meaning.specs.Premise.{IsListed}
use Rattle.rule_meaning.specs.Reading.{Choice, conditions_at}
use Rattle.rule_meaning.specs.Settled.{is_on}
use Rattle.table_compiler.specs.declared.part.Part.{Part}
use Rattle.table_compiler.specs.declared.part.Part.TheVariants.{Column, Number}
use Rattle.table_compiler.specs.declared.table.Clause.{Clause}
use Rattle.table_compiler.specs.declared.table.TableRow.{TableRow}
use Rattle.table_compiler.specs.declared.table.LinkTable.{LinkTable}
use Rattle.table_compiler.specs.Clauses.{is_empty_set}

-- whether a value is in a set: a missing one is in none
abbrev pub is_in : List Interval → Option Rational → Bool
is_in set None = false
is_in set (Some q) = members set q

-- whether the condition at a place holds, if there is one
abbrev pub condition_holds : Rules → State → Option Condition → Bool
condition_holds x s None = false
condition_holds x s (Some c) = holds x s c

-- Whether a part of a clause holds at a state, in a row of a rule that has these conditions: the
-- value of its column is in its set, or its condition holds.
unfoldable pub part_holds : Rules → State → List Condition → Part → Bool
part_holds x s conditions (Column column set) = is_in set (left_value x s column)
part_holds x s conditions (Number place) = condition_holds x s (slice_get conditions place)

-- whether some part of a clause holds
unfoldable pub clause_holds : Rules → State → List Condition → Clause → Bool
clause_holds x s conditions clause = list_any (part_holds x s conditions) clause.parts

-- whether all clauses hold
abbrev pub all_hold : Rules → State → List Condition → List Clause → Bool
all_hold x s conditions clauses = list_all (clause_holds x s conditions) clauses

-- whether a row holds: `when` where all clauses hold, `unless` where some clause does not
unfoldable pub row_holds : Rules → State → TableRow → Bool
row_holds x s row =
    if row.negated
    then not (all_hold x s (conditions_at x.rules row.action) row.clauses)
    else all_hold x s (conditions_at x.rules row.action) row.clauses

-- what rows order at a state: the action of the first that holds, or nothing
unfoldable pub ordered_by : Rules → State → List TableRow → Option ActionAt
ordered_by x s rows = option_map (λ row. row.action) (find (row_holds x s) rows)

-- what tables order for each link
unfoldable pub tabled : Rules → List LinkTable → Choice
tabled x tables s link =
    option_and_then (λ table. ordered_by x s table.rows)
    (find (λ table. table.link == link) tables)

-- ---- what a reading by tables asks of them

-- A row in the table of a link is fit: its action is on the link, and at every state at which no
-- used name stops it holds only where its branch is listed.
pub record RowFits (x : Rules) (link : ℕ) (row : TableRow) : Type 0 where
  pub on_link : IsTrue (is_on x.rules link row.action)
  pub listed : (s : State) → names_stop x s ≡ None → IsTrue (row_holds x s row)
      → IsListed x s row.action

abbrev pub TablesFit : Rules → List LinkTable → Type 0
TablesFit x tables = All (λ table. All (RowFits x table.link) table.rows) tables

-- ---- the form of clauses

-- whether a part is a set in normal form that is not empty, or a condition
abbrev pub has_normal_set : Part → Bool
has_normal_set (Column column set) = is_normal set && not (is_empty_set set)
has_normal_set (Number place) = true

abbrev pub has_part : List Part → Bool
has_part [] = false
has_part (part ∷ more) = true

-- whether a clause has parts, and only such
abbrev pub is_normal_clause : Clause → Bool
is_normal_clause clause = has_part clause.parts && list_all has_normal_set clause.parts
