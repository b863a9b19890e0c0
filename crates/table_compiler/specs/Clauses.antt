-- The clauses of a premise.
use Rattle.std.specs.Prelude.{Bool, true, false, not, Option, Some, None, List, [], ◌∷◌, map}
use Rattle.std.specs.List.{list_all}
use Rattle.interval_sets.specs.declared.interval.Interval.{Interval}
use Rattle.rule_types.specs.declared.condition.Condition.{Condition}
use Rattle.rule_meaning.specs.Premise.{Placed, groups, placed_from}
use Rattle.table_compiler.specs.declared.part.Part.{Part}
use Rattle.table_compiler.specs.declared.part.Part.TheVariants.{Column, Number}
use Rattle.table_compiler.specs.declared.table.Clause.{Clause}
use Rattle.table_compiler.specs.Parts.{with_conditions, met_part}

-- the clause of a group of conditions
abbrev pub clause_of : List Placed → Clause
clause_of group = record { parts = with_conditions [] group }

-- the part of a clause that has just one
abbrev pub only_part : List Part → Option Part
only_part [] = None
only_part (part ∷ []) = Some part
only_part (part ∷ next ∷ more) = None

-- where two clauses of one part each are on the same column, the part that holds where both do
abbrev pub met_only : Option Part → Option Part → Option Part
met_only (Some part) (Some other) = met_part part other
met_only (Some part) None = None
met_only None other = None

abbrev pub met_clause : Clause → Clause → Option Part
met_clause clause other = met_only (only_part clause.parts) (only_part other.parts)

-- clauses with one more: it is met with the first clause that has one part on the same column,
-- where both have one part alone, and else stands last
abbrev pub with_clause_by : Option Part → Clause → List Clause → List Clause → List Clause
with_clause_by (Some part) first more later = record { parts = part ∷ [] } ∷ more
with_clause_by None first more later = first ∷ later

unfoldable pub with_clause : List Clause → Clause → List Clause
with_clause [] clause = clause ∷ []
with_clause (first ∷ more) clause =
    with_clause_by (met_clause first clause) first more (with_clause more clause)

unfoldable pub with_clauses : List Clause → List Clause → List Clause
with_clauses clauses [] = clauses
with_clauses clauses (clause ∷ more) = with_clauses (with_clause clauses clause) more

-- the clauses of a rule's conditions: one for each group of the premise, and those of one part on
-- the same column in one
unfoldable pub clauses_of : List Condition → List Clause
clauses_of conditions =
    with_clauses [] (map clause_of (groups (λ c. c.condition.joined_by_and)
    (placed_from 0 conditions)))

-- whether a clause can never hold: it has no part, or one column alone and no number of it
abbrev pub is_empty_set : List Interval → Bool
is_empty_set [] = true
is_empty_set (piece ∷ pieces) = false

abbrev pub is_empty_part : Part → Bool
is_empty_part (Column column set) = is_empty_set set
is_empty_part (Number place) = false

abbrev pub never_holds : List Part → Bool
never_holds [] = true
never_holds (part ∷ []) = is_empty_part part
never_holds (part ∷ next ∷ more) = false

-- whether no clause is one that can never hold
unfoldable pub is_possible : List Clause → Bool
is_possible clauses = list_all (λ clause. not (never_holds clause.parts)) clauses
