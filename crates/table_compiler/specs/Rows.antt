-- The rows of the table of each link.
use Rattle.std.specs.Prelude.{ℕ, suc, Bool, true, false, ◌==◌, if◌then◌else◌}
use Rattle.std.specs.Prelude.{Option, Some, None, List, [], ◌∷◌, ◌++◌, map, slice_get}
use Rattle.std.specs.List.{flat_map, position}
use Rattle.rule_types.specs.declared.action.Action.{Action}
use Rattle.rule_types.specs.declared.action.ActionAt.{ActionAt}
use Rattle.rule_types.specs.declared.action.Branch.{Branch}
use Rattle.rule_types.specs.declared.action.Branch.TheVariants.{Then, Otherwise}
use Rattle.rule_types.specs.declared.rule.Rule.{Rule}
use Rattle.rule_types.specs.declared.rules.Rules.{Rules}
use Rattle.rule_types.specs.Ranks.{precedes}
use Rattle.rule_types.specs.Reading.{branch_actions}
use Rattle.rule_meaning.specs.Settled.{rule_priority, as_list}
use Rattle.table_compiler.specs.declared.table.Clause.{Clause}
use Rattle.table_compiler.specs.declared.table.TableRow.{TableRow}
use Rattle.table_compiler.specs.declared.table.LinkTable.{LinkTable}
use Rattle.table_compiler.specs.Clauses.{clauses_of, is_possible}

-- ---- rules by rank

-- whether the rule at a place precedes the rule at another: it has the higher rank, or the same
-- rank and the earlier place
unfoldable pub rule_precedes : List Rule → ℕ → ℕ → Bool
rule_precedes rules place other =
    precedes (rule_priority (slice_get rules place)) place
    (rule_priority (slice_get rules other)) other

-- places in order with one more
unfoldable pub with_place : List Rule → ℕ → List ℕ → List ℕ
with_place rules place [] = place ∷ []
with_place rules place (next ∷ more) =
    if rule_precedes rules place next then place ∷ next ∷ more
    else next ∷ with_place rules place more

-- the places of rules from a place on, each before all that it precedes
unfoldable pub ranked_from : List Rule → ℕ → List Rule → List ℕ
ranked_from rules place [] = []
ranked_from rules place (rule ∷ more) = with_place rules place (ranked_from rules (suc place) more)

-- the places of all rules, by falling rank, and of one rank in the order of the file
abbrev pub ranked : List Rule → List ℕ
ranked rules = ranked_from rules 0 rules

-- ---- the rows of a rule

-- the place of the first action on a link
abbrev pub first_on : ℕ → List Action → Option ℕ
first_on link actions = position (λ action. action.link == link) actions

-- The row of an action, where its rule's premise has these clauses and they can hold together, or
-- can't: THEN has a `when` row, or none where they can't; ELSE has an `unless` row, and where they
-- can't a `when` row without clauses, which always holds.
abbrev pub row_by : ActionAt → List Clause → Branch → Bool → Option TableRow
row_by at clauses Then true = Some (record { action = at; negated = false; clauses = clauses })
row_by at clauses Then false = None
row_by at clauses Otherwise true =
    Some (record { action = at; negated = true; clauses = clauses })
row_by at clauses Otherwise false = Some (record { action = at; negated = false; clauses = [] })

abbrev pub row_of : ActionAt → List Clause → Option TableRow
row_of at clauses = row_by at clauses at.branch (is_possible clauses)

-- the row of a branch on a link: that of its first action there
abbrev pub branch_row : ℕ → Branch → List Clause → Option ℕ → List TableRow
branch_row place branch clauses None = []
branch_row place branch clauses (Some action) =
    as_list (row_of (record { rule = place; branch = branch; action = action }) clauses)

-- the rows of the rule at a place on a link, THEN before ELSE
unfoldable pub branch_rows : ℕ → ℕ → Branch → Rule → List TableRow
branch_rows link place branch rule =
    branch_row place branch (clauses_of rule.conditions)
    (first_on link (branch_actions rule branch))

abbrev pub rule_rows : ℕ → ℕ → Option Rule → List TableRow
rule_rows link place None = []
rule_rows link place (Some rule) =
    branch_rows link place Then rule ++ branch_rows link place Otherwise rule

-- ---- the table of a link

-- whether a row always holds: it is a `when` row without clauses
abbrev pub is_always_by : Bool → List Clause → Bool
is_always_by false [] = true
is_always_by false (clause ∷ more) = false
is_always_by true clauses = false

abbrev pub is_always : TableRow → Bool
is_always row = is_always_by row.negated row.clauses

-- rows without those behind the first that always holds
unfoldable pub cut : List TableRow → List TableRow
cut [] = []
cut (row ∷ more) = if is_always row then row ∷ [] else row ∷ cut more

-- the rows on a link: those of the rules by rank
unfoldable pub rows_on : List Rule → ℕ → List TableRow
rows_on rules link =
    cut (flat_map (λ place. rule_rows link place (slice_get rules place)) (ranked rules))

-- the tables of the controlled links, in link order
unfoldable pub tables_of : Rules → List LinkTable
tables_of x = map (λ link. record { link = link; rows = rows_on x.rules link }) x.controlled
