-- Tables while their rows are entered one by one.
use Rattle.std.specs.Prelude.{ℕ, Bool, false, not, ◌&&◌, ◌==◌, List, [], ◌∷◌, ◌++◌, map, take}
use Rattle.std.specs.Prelude.{if◌then◌else◌, slice_get}
use Rattle.std.specs.List.{list_any, flat_map}
use Rattle.rule_types.specs.declared.action.Action.{Action}
use Rattle.rule_types.specs.declared.action.ActionAt.{ActionAt}
use Rattle.rule_types.specs.declared.rule.Rule.{Rule}
use Rattle.rule_meaning.specs.Settled.{acts_on, as_list}
use Rattle.table_compiler.specs.declared.table.Clause.{Clause}
use Rattle.table_compiler.specs.declared.table.TableRow.{TableRow}
use Rattle.table_compiler.specs.declared.table.LinkTable.{LinkTable}
use Rattle.table_compiler.specs.Rows.{cut, is_always, row_of, rule_rows}

-- the tables of links that have these rows, as far as they are kept
unfoldable pub tables_with : List ℕ → (ℕ → List TableRow) → List LinkTable
tables_with links rows = map (λ link. record { link = link; rows = cut (rows link) }) links

-- whether the last row always holds
abbrev pub ends_always : List TableRow → Bool
ends_always [] = false
ends_always (row ∷ []) = is_always row
ends_always (row ∷ next ∷ more) = ends_always (next ∷ more)

-- rows with one more, which counts only where the last row does not always hold
abbrev pub with_row : List TableRow → TableRow → List TableRow
with_row rows row = if ends_always rows then rows else rows ++ row ∷ []

-- the row on a link that an action of a branch gives, if it is the first there
abbrev pub action_row : ℕ → ActionAt → List Clause → List Action → List TableRow
action_row link at clauses actions =
    if acts_on link (slice_get actions at.action)
    && not (list_any (λ action. action.link == link) (take at.action actions))
    then as_list (row_of at clauses) else []

-- the rows on a link of the rules at some places
abbrev pub rows_of_places : List Rule → List ℕ → ℕ → List TableRow
rows_of_places rules places link =
    flat_map (λ place. rule_rows link place (slice_get rules place)) places
