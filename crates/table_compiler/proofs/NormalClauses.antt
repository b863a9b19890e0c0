-- The clauses of rows have parts, and their sets are in normal form and not empty.
use Rattle.std.proofs.Common.{◌≡◌, ℕ, Bool, true, false, not, Option, Some, None, List, [], ◌∷◌, map, refl, sym, ap, ◌∙◌, arith, slice_get}
use Rattle.std.specs.Prelude.{◌&&◌, IsTrue, All}
use Rattle.std.specs.List.{list_all, onto_first, flat_map}
use Rattle.std.proofs.lemmas.Bool.{and_parts, and_from, not_from_false, not-true}
use Rattle.std.proofs.lemmas.List.Elements.{All-nil, All-append}
use Rattle.exact_fraction.specs.declared.relation.Relation.{Relation}
use Rattle.interval_sets.specs.declared.interval.Interval.{Interval}
use Rattle.interval_sets.specs.Sets.{is_normal, set_of, union_of, intersection_of}
use Rattle.interval_sets.proofs.PublicLaws.{set_order-relation, set_order-union, set_order-intersection, empty_sets-relation, empty_sets-union_left}
use Rattle.rule_types.specs.declared.action.ActionAt.{ActionAt}
use Rattle.rule_types.specs.declared.action.Branch.{Branch}
use Rattle.rule_types.specs.declared.action.Branch.TheVariants.{Then, Otherwise}
use Rattle.rule_types.specs.declared.condition.Condition.{Condition}
use Rattle.rule_types.specs.declared.condition.Right.{Right}
use Rattle.rule_types.specs.declared.condition.Right.TheVariants as right
use Rattle.rule_types.specs.declared.condition.Side.{Side}
use Rattle.rule_types.specs.declared.rule.Rule.{Rule}
use Rattle.rule_types.specs.declared.rules.Rules.{Rules}
use Rattle.rule_meaning.specs.Premise.{Placed, ends_before, groups, placed_from}
use Rattle.table_compiler.specs.declared.part.Part.{Part}
use Rattle.table_compiler.specs.declared.part.Part.TheVariants.{Column, Number}
use Rattle.table_compiler.specs.declared.table.Clause.{Clause}
use Rattle.table_compiler.specs.declared.table.TableRow.{TableRow}
use Rattle.table_compiler.specs.Parts.{same_column, joined_part, united_part, part_before, part_by, part_of, with_part_by, with_part, with_conditions}
use Rattle.table_compiler.specs.Clauses.{clause_of, only_part, met_only, met_clause, with_clause_by, with_clause, with_clauses, clauses_of, is_empty_set, is_empty_part, never_holds, is_possible}
use Rattle.table_compiler.specs.Rows.{row_by, row_of, first_on, branch_row, branch_rows, rule_rows, ranked, rows_on, tables_of}
use Rattle.table_compiler.specs.Meaning.{has_normal_set, has_part, is_normal_clause}
use Rattle.table_compiler.proofs.FitRows.{All-cut, All-flat_map, All-one, All-tables}

-- ---- sets
not_empty : (set : List Interval) → ¬ (set ≡ []) → not (is_empty_set set) ≡ true
not_empty [] h = absurd (h refl)
not_empty (piece ∷ pieces) h = refl

some_piece : (set : List Interval) → not (is_empty_set set) ≡ true → ¬ (set ≡ [])
some_piece [] h e = absurd (grind arith)
some_piece (piece ∷ pieces) h e = grind arith

-- ---- parts
abbrev is_normal_part : Part → Bool
is_normal_part (Column column set) = is_normal set
is_normal_part (Number place) = true

part_by_normal : (place : ℕ) (left : Side) (relation : Relation) (half : Bool) (other : Right) → has_normal_set (part_by place left relation half other) ≡ true
part_by_normal place left relation true other = refl
part_by_normal place left relation false (right.Key key) = refl
part_by_normal place left relation false (right.Value q) =
    and_from (is_normal (set_of relation q)) (not (is_empty_set (set_of relation q))) (set_order-relation relation q)
    (not_empty (set_of relation q) (empty_sets-relation relation q))

part_normal : (place : ℕ) (c : Condition) → has_normal_set (part_of place c) ≡ true
unfolding part_of
part_normal place c = part_by_normal place c.left c.rel c.half_step c.right

united_by : (column other : Side) (set others : List Interval) (one : Part) (same : Bool) → same_column column other ≡ same → has_normal_set (Column column set) ≡ true → united_part (Column column set) (Column other others) ≡ Some one → has_normal_set one ≡ true
united_by column other set others one true is h e =
    let made : Column column (union_of set others) ≡ one = (let given : Some (Column column (union_of set others)) ≡ Some one = rw is at e in grind arith) in
    let parts = and_parts (is_normal set) (not (is_empty_set set)) h in
    ap has_normal_set (sym made)
    ∙ and_from (is_normal (union_of set others)) (not (is_empty_set (union_of set others))) (set_order-union set others)
    (not_empty (union_of set others) (empty_sets-union_left set others parts.0 (some_piece set parts.1)))
united_by column other set others one false is h e = absurd (let given : None ≡ Some one = rw is at e in grind arith)

united_normal : (part other one : Part) → has_normal_set part ≡ true → united_part part other ≡ Some one → has_normal_set one ≡ true
united_normal (Column column set) (Column other others) one h e = united_by column other set others one (same_column column other) refl h e
united_normal (Column column set) (Number other) one h e = absurd (grind arith)
united_normal (Number place) (Column other others) one h e = absurd (grind arith)
united_normal (Number place) (Number other) one h e = absurd (grind arith)

with_part_normal_by : (o : Option Part) (before : Bool) (first : Part) (more : List Part) (part : Part) (later : List Part) → united_part first part ≡ o → list_all has_normal_set (first ∷ more) ≡ true → has_normal_set part ≡ true → list_all has_normal_set later ≡ true → list_all has_normal_set (with_part_by o before first more part later) ≡ true
with_part_normal_by (Some one) before first more part later is h g rest =
    let parts = and_parts (has_normal_set first) (list_all has_normal_set more) h in
    and_from (has_normal_set one) (list_all has_normal_set more) (united_normal first part one parts.0 is) parts.1
with_part_normal_by None true first more part later is h g rest =
    and_from (has_normal_set first) (list_all has_normal_set later) (and_parts (has_normal_set first) (list_all has_normal_set more) h).0 rest
with_part_normal_by None false first more part later is h g rest =
    and_from (has_normal_set part) (list_all has_normal_set (first ∷ more)) g h

with_part_normal : (parts : List Part) (part : Part) → list_all has_normal_set parts ≡ true → has_normal_set part ≡ true → list_all has_normal_set (with_part parts part) ≡ true
unfolding with_part
with_part_normal [] part h g = and_from (has_normal_set part) true g refl
with_part_normal (first ∷ more) part h g =
    with_part_normal_by (united_part first part) (part_before first part) first more part (with_part more part) refl h g
    (with_part_normal more part (and_parts (has_normal_set first) (list_all has_normal_set more) h).1 g)

with_part_some_by : (o : Option Part) (before : Bool) (first : Part) (more : List Part) (part : Part) (later : List Part) → has_part (with_part_by o before first more part later) ≡ true
with_part_some_by (Some one) before first more part later = refl
with_part_some_by None true first more part later = refl
with_part_some_by None false first more part later = refl

with_part_some : (parts : List Part) (part : Part) → has_part (with_part parts part) ≡ true
unfolding with_part
with_part_some [] part = refl
with_part_some (first ∷ more) part = with_part_some_by (united_part first part) (part_before first part) first more part (with_part more part)

conditions_normal : (parts : List Part) (group : List Placed) → list_all has_normal_set parts ≡ true → list_all has_normal_set (with_conditions parts group) ≡ true
unfolding with_conditions
conditions_normal parts [] h = h
conditions_normal parts (c ∷ more) h =
    conditions_normal (with_part parts (part_of c.place c.condition)) more
    (with_part_normal parts (part_of c.place c.condition) h (part_normal c.place c.condition))

conditions_some : (parts : List Part) (group : List Placed) → has_part parts ≡ true → has_part (with_conditions parts group) ≡ true
unfolding with_conditions
conditions_some parts [] h = h
conditions_some parts (c ∷ more) h =
    conditions_some (with_part parts (part_of c.place c.condition)) more (with_part_some parts (part_of c.place c.condition))

-- ---- clauses: they have parts, and a set is empty only where it stands alone
abbrev is_sound : List Part → Bool
is_sound [] = false
is_sound (part ∷ []) = is_normal_part part
is_sound (part ∷ next ∷ more) = list_all has_normal_set (part ∷ next ∷ more)

normal_part : (part : Part) → has_normal_set part ≡ true → is_normal_part part ≡ true
normal_part (Column column set) h = (and_parts (is_normal set) (not (is_empty_set set)) h).0
normal_part (Number place) h = refl

sound_parts : (parts : List Part) → has_part parts ≡ true → list_all has_normal_set parts ≡ true → is_sound parts ≡ true
sound_parts [] h g = h
sound_parts (part ∷ []) h g = normal_part part (and_parts (has_normal_set part) true g).0
sound_parts (part ∷ next ∷ more) h g = g

abbrev has_condition : List Placed → Bool
has_condition [] = false
has_condition (c ∷ more) = true

group_sound : (group : List Placed) → has_condition group ≡ true → is_sound (with_conditions [] group) ≡ true
unfolding with_conditions
group_sound [] h = absurd (grind arith)
group_sound (c ∷ more) h =
    sound_parts (with_conditions (with_part [] (part_of c.place c.condition)) more)
    (conditions_some (with_part [] (part_of c.place c.condition)) more (with_part_some [] (part_of c.place c.condition)))
    (conditions_normal (with_part [] (part_of c.place c.condition)) more
    (with_part_normal [] (part_of c.place c.condition) refl (part_normal c.place c.condition)))

onto_some : (c : Placed) (gs : List (List Placed)) → list_all has_condition gs ≡ true → list_all has_condition (onto_first c gs) ≡ true
onto_some c [] h = refl
onto_some c (g ∷ gs) h = (and_parts (has_condition g) (list_all has_condition gs) h).1

groups_some_by : (begins : Placed → Bool) (c : Placed) (more : List Placed) (b : Bool) → ends_before begins more ≡ b → list_all has_condition (groups begins more) ≡ true → list_all has_condition (groups begins (c ∷ more)) ≡ true
unfolding groups
groups_some_by begins c more true is h = rw is h
groups_some_by begins c more false is h = rw is (onto_some c (groups begins more) h)

groups_some : (begins : Placed → Bool) (cs : List Placed) → list_all has_condition (groups begins cs) ≡ true
unfolding groups
groups_some begins [] = refl
groups_some begins (c ∷ more) = groups_some_by begins c more (ends_before begins more) refl (groups_some begins more)

abbrev are_sound : List Clause → Bool
are_sound clauses = list_all (λ (clause : Clause). is_sound clause.parts) clauses

of_groups : (gs : List (List Placed)) → list_all has_condition gs ≡ true → are_sound (map clause_of gs) ≡ true
of_groups [] h = refl
of_groups (g ∷ gs) h =
    let parts = and_parts (has_condition g) (list_all has_condition gs) h in
    and_from (is_sound (with_conditions [] g)) (are_sound (map clause_of gs)) (group_sound g parts.0) (of_groups gs parts.1)

met_by : (column other : Side) (set others : List Interval) (one : Part) (same : Bool) → same_column column other ≡ same → joined_part intersection_of (Column column set) (Column other others) ≡ Some one → is_normal_part one ≡ true
met_by column other set others one true is e =
    let made : Column column (intersection_of set others) ≡ one = (let given : Some (Column column (intersection_of set others)) ≡ Some one = rw is at e in grind arith) in
    ap is_normal_part (sym made) ∙ set_order-intersection set others
met_by column other set others one false is e = absurd (let given : None ≡ Some one = rw is at e in grind arith)

met_normal : (part other one : Part) → joined_part intersection_of part other ≡ Some one → is_normal_part one ≡ true
met_normal (Column column set) (Column other others) one e = met_by column other set others one (same_column column other) refl e
met_normal (Column column set) (Number other) one e = absurd (grind arith)
met_normal (Number place) (Column other others) one e = absurd (grind arith)
met_normal (Number place) (Number other) one e = absurd (grind arith)

met_only_normal : (o p : Option Part) (one : Part) → met_only o p ≡ Some one → is_normal_part one ≡ true
met_only_normal (Some part) (Some other) one e = met_normal part other one e
met_only_normal (Some part) None one e = absurd (grind arith)
met_only_normal None other one e = absurd (grind arith)

with_clause_sound_by : (o : Option Part) (first : Clause) (more : List Clause) (clause : Clause) (later : List Clause) → met_clause first clause ≡ o → are_sound (first ∷ more) ≡ true → are_sound later ≡ true → are_sound (with_clause_by o first more later) ≡ true
with_clause_sound_by (Some one) first more clause later is h rest =
    and_from (is_normal_part one) (are_sound more) (met_only_normal (only_part first.parts) (only_part clause.parts) one is)
    (and_parts (is_sound first.parts) (are_sound more) h).1
with_clause_sound_by None first more clause later is h rest =
    and_from (is_sound first.parts) (are_sound later) (and_parts (is_sound first.parts) (are_sound more) h).0 rest

with_clause_sound : (clauses : List Clause) (clause : Clause) → are_sound clauses ≡ true → is_sound clause.parts ≡ true → are_sound (with_clause clauses clause) ≡ true
unfolding with_clause
with_clause_sound [] clause h g = and_from (is_sound clause.parts) true g refl
with_clause_sound (first ∷ more) clause h g =
    with_clause_sound_by (met_clause first clause) first more clause (with_clause more clause) refl h
    (with_clause_sound more clause (and_parts (is_sound first.parts) (are_sound more) h).1 g)

with_clauses_sound : (clauses others : List Clause) → are_sound clauses ≡ true → are_sound others ≡ true → are_sound (with_clauses clauses others) ≡ true
unfolding with_clauses
with_clauses_sound clauses [] h g = h
with_clauses_sound clauses (clause ∷ more) h g =
    let parts = and_parts (is_sound clause.parts) (are_sound more) g in
    with_clauses_sound (with_clause clauses clause) more (with_clause_sound clauses clause h parts.0) parts.1

clauses_sound : (conditions : List Condition) → are_sound (clauses_of conditions) ≡ true
unfolding clauses_of
clauses_sound conditions =
    let gs : List (List Placed) = groups (λ c. c.condition.joined_by_and) (placed_from 0 conditions) in
    with_clauses_sound [] (map clause_of gs) refl
    (of_groups gs (groups_some (λ c. c.condition.joined_by_and) (placed_from 0 conditions)))

-- ---- where no clause can never hold, all are normal
abbrev are_normal : List Clause → Bool
are_normal clauses = list_all is_normal_clause clauses

full_part : (part : Part) → is_normal_part part ≡ true → is_empty_part part ≡ false → has_normal_set part ≡ true
full_part (Column column set) h g = and_from (is_normal set) (not (is_empty_set set)) h (not_from_false (is_empty_set set) g)
full_part (Number place) h g = refl

normal_parts : (parts : List Part) → is_sound parts ≡ true → never_holds parts ≡ false → (has_part parts && list_all has_normal_set parts) ≡ true
normal_parts [] h g = absurd (grind arith)
normal_parts (part ∷ []) h g = and_from (has_normal_set part) true (full_part part h g) refl
normal_parts (part ∷ next ∷ more) h g = h

possible_normal : (clauses : List Clause) → are_sound clauses ≡ true → list_all (λ (clause : Clause). not (never_holds clause.parts)) clauses ≡ true → are_normal clauses ≡ true
possible_normal [] h g = refl
possible_normal (clause ∷ more) h g =
    let parts = and_parts (is_sound clause.parts) (are_sound more) h in
    let rest = and_parts (not (never_holds clause.parts)) (list_all (λ (one : Clause). not (never_holds one.parts)) more) g in
    and_from (is_normal_clause clause) (are_normal more) (normal_parts clause.parts parts.0 (not-true (never_holds clause.parts) rest.0))
    (possible_normal more parts.1 rest.1)

-- ---- rows
row_normal_by : (at : ActionAt) (clauses : List Clause) (branch : Branch) (possible : Bool) (row : TableRow) → (possible ≡ true → are_normal clauses ≡ true) → row_by at clauses branch possible ≡ Some row → are_normal row.clauses ≡ true
row_normal_by at clauses Then true row h e =
    let made : record { action = at; negated = false; clauses = clauses } ≡ row = grind arith in
    ap (λ (one : TableRow). are_normal one.clauses) (sym made) ∙ h refl
row_normal_by at clauses Then false row h e = absurd (grind arith)
row_normal_by at clauses Otherwise true row h e =
    let made : record { action = at; negated = true; clauses = clauses } ≡ row = grind arith in
    ap (λ (one : TableRow). are_normal one.clauses) (sym made) ∙ h refl
row_normal_by at clauses Otherwise false row h e =
    let made : record { action = at; negated = false; clauses = [] } ≡ row = grind arith in
    ap (λ (one : TableRow). are_normal one.clauses) (sym made)

abbrev IsNormalRow : ℕ → TableRow → Type 0
IsNormalRow link row = IsTrue (are_normal row.clauses)

possible_of : (conditions : List Condition) → is_possible (clauses_of conditions) ≡ true → are_normal (clauses_of conditions) ≡ true
unfolding is_possible
possible_of conditions h = possible_normal (clauses_of conditions) (clauses_sound conditions) h

branch_normal : (link place : ℕ) (branch : Branch) (conditions : List Condition) (o : Option ℕ) → All (IsNormalRow link) (branch_row place branch (clauses_of conditions) o)
branch_normal link place branch conditions None = All-nil (IsNormalRow link)
branch_normal link place branch conditions (Some action) =
    let at : ActionAt = record { rule = place; branch = branch; action = action } in
    All-one (IsNormalRow link) (row_of at (clauses_of conditions))
    (λ row has. row_normal_by at (clauses_of conditions) branch (is_possible (clauses_of conditions)) row (possible_of conditions) has)

rule_normal : (link place : ℕ) (o : Option Rule) → All (IsNormalRow link) (rule_rows link place o)
unfolding branch_rows
rule_normal link place None = All-nil (IsNormalRow link)
rule_normal link place (Some rule) =
    All-append (IsNormalRow link) (branch_rows link place Then rule) (branch_rows link place Otherwise rule)
    (branch_normal link place Then rule.conditions (first_on link rule.then_actions))
    (branch_normal link place Otherwise rule.conditions (first_on link rule.else_actions))

rows_normal : (x : Rules) (link : ℕ) → All (IsNormalRow link) (rows_on x.rules link)
unfolding rows_on
rows_normal x link =
    All-cut (IsNormalRow link) (flat_map (λ place. rule_rows link place (slice_get x.rules place)) (ranked x.rules))
    (All-flat_map (IsNormalRow link) (λ place. rule_rows link place (slice_get x.rules place)) (ranked x.rules)
    (λ place. rule_normal link place (slice_get x.rules place)))

pub tables_normal : (x : Rules) → All (λ table. All (λ row. IsTrue (list_all is_normal_clause row.clauses)) table.rows) (tables_of x)
tables_normal x = All-tables x IsNormalRow (rows_normal x)
