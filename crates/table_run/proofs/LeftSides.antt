-- The columns of the tables of rules stand on the left of conditions.
use Rattle.std.proofs.Common.{◌≡◌, ℕ, suc, Bool, true, false, cond, Option, Some, None, List, [], ◌∷◌, map, refl, ap, subst, arith, get_or}
use Rattle.std.proofs.lemmas.Option.{slice_get-get_or}
use Rattle.std.proofs.lemmas.List.Elements.{All-nil, All-cons, All-head, All-tail, All-append}
use Rattle.std.specs.Prelude.{slice_get, All, IsTrue}
use Rattle.std.specs.List.{onto_first, flat_map}
use Rattle.interval_sets.specs.declared.interval.Interval.{Interval}
use Rattle.interval_sets.specs.Sets.{union_of, intersection_of}
use Rattle.exact_fraction.specs.declared.relation.Relation.{Relation}
use Rattle.rule_types.specs.declared.action.ActionAt.{ActionAt}
use Rattle.rule_types.specs.declared.action.Branch.{Branch}
use Rattle.rule_types.specs.declared.action.Branch.TheVariants.{Then, Otherwise}
use Rattle.rule_types.specs.declared.condition.Condition.{Condition}
use Rattle.rule_types.specs.declared.condition.Right.{Right}
use Rattle.rule_types.specs.declared.condition.Right.TheVariants as right
use Rattle.rule_types.specs.declared.condition.Side.{Side}
use Rattle.rule_types.specs.declared.rule.Rule.{Rule}
use Rattle.rule_types.specs.declared.rules.Rules.{Rules}
use Rattle.rule_meaning.specs.Premise.{Placed, ends_before, groups, placed_from}
use Rattle.rule_meaning.specs.Settled.{as_list}
use Rattle.table_compiler.specs.declared.part.Part.{Part}
use Rattle.table_compiler.specs.declared.part.Part.TheVariants.{Column, Number}
use Rattle.table_compiler.specs.declared.table.Clause.{Clause}
use Rattle.table_compiler.specs.declared.table.LinkTable.{LinkTable}
use Rattle.table_compiler.specs.declared.table.TableRow.{TableRow}
use Rattle.table_compiler.specs.Parts.{same_column, joined_part, united_part, part_before, part_by, part_of, with_part_by, with_part, with_conditions}
use Rattle.table_compiler.specs.Clauses.{clause_of, only_part, met_only, met_clause, with_clause_by, with_clause, with_clauses, clauses_of, is_possible}
use Rattle.table_compiler.specs.Rows.{row_by, row_of, first_on, branch_row, branch_rows, rule_rows, ranked, is_always, cut, rows_on, tables_of}
use Rattle.table_run.specs.Sides.{is_left_side, PartReads, RowReads, ServesRules}
use Rattle.table_run.proofs.LeftConditions.{same_left}

-- ---- parts
part_by_of : (x : Rules) (place : ℕ) (left : Side) (relation : Relation) (half : Bool) (other : Right)
    → IsTrue (is_left_side x left) → PartReads x (part_by place left relation half other)
part_by_of x place left relation true other h = tt
part_by_of x place left relation false (right.Key key) h = tt
part_by_of x place left relation false (right.Value q) h = h

part_of_of : (x : Rules) (place : ℕ) (c : Condition) → IsTrue (is_left_side x c.left) → PartReads x (part_of place c)
unfolding part_of
part_of_of x place c h = part_by_of x place c.left c.rel c.half_step c.right h

joined_by : (x : Rules) (operation : List Interval → List Interval → List Interval)
    (column other : Side) (set others : List Interval) (one : Part) (same : Bool)
    → same_column column other ≡ same → IsTrue (is_left_side x column)
    → joined_part operation (Column column set) (Column other others) ≡ Some one → PartReads x one
joined_by x operation column other set others one true is h e =
    let made : Column column (operation set others) ≡ one = (let given : Some (Column column (operation set others)) ≡ Some one = rw is at e in grind arith) in
    subst (PartReads x) made h
joined_by x operation column other set others one false is h e =
    absurd (let given : None ≡ Some one = rw is at e in grind arith)

joined_of : (x : Rules) (operation : List Interval → List Interval → List Interval)
    (part other one : Part)
    → PartReads x part → joined_part operation part other ≡ Some one → PartReads x one
joined_of x operation (Column column set) (Column other others) one h e =
    joined_by x operation column other set others one (same_column column other) refl h e
joined_of x operation (Column column set) (Number other) one h e = absurd (grind arith)
joined_of x operation (Number place) (Column other others) one h e = absurd (grind arith)
joined_of x operation (Number place) (Number other) one h e = absurd (grind arith)

with_part_of_by : (x : Rules) (o : Option Part) (before : Bool) (first : Part) (more : List Part) (part : Part) (later : List Part)
    → united_part first part ≡ o → All (PartReads x) (first ∷ more) → PartReads x part → All (PartReads x) later
    → All (PartReads x) (with_part_by o before first more part later)
with_part_of_by x (Some one) before first more part later is h g rest =
    All-cons (PartReads x) one more (joined_of x union_of first part one (All-head (PartReads x) first more h) is) (All-tail (PartReads x) first more h)
with_part_of_by x None true first more part later is h g rest =
    All-cons (PartReads x) first later (All-head (PartReads x) first more h) rest
with_part_of_by x None false first more part later is h g rest =
    All-cons (PartReads x) part (first ∷ more) g h

with_part_of : (x : Rules) (parts : List Part) (part : Part)
    → All (PartReads x) parts → PartReads x part → All (PartReads x) (with_part parts part)
unfolding with_part
with_part_of x [] part h g = All-cons (PartReads x) part [] g h
with_part_of x (first ∷ more) part h g =
    with_part_of_by x (united_part first part) (part_before first part) first more part (with_part more part) refl h g
    (with_part_of x more part (All-tail (PartReads x) first more h) g)

-- ---- groups
abbrev Reads : Rules → Placed → Type 0
Reads x c = IsTrue (is_left_side x c.condition.left)

conditions_of : (x : Rules) (parts : List Part) (group : List Placed)
    → All (PartReads x) parts → All (Reads x) group → All (PartReads x) (with_conditions parts group)
unfolding with_conditions
conditions_of x parts [] h g = h
conditions_of x parts (c ∷ more) h g =
    conditions_of x (with_part parts (part_of c.place c.condition)) more
    (with_part_of x parts (part_of c.place c.condition) h (part_of_of x c.place c.condition (All-head (Reads x) c more g)))
    (All-tail (Reads x) c more g)

placed_of : (x : Rules) (place : ℕ) (conditions : List Condition)
    → All (λ c. IsTrue (is_left_side x c.left)) conditions → All (Reads x) (placed_from place conditions)
unfolding placed_from
placed_of x place [] h = All-nil (Reads x)
placed_of x place (c ∷ more) h =
    All-cons (Reads x) (record { place = place; condition = c }) (placed_from (suc place) more)
    (All-head (λ (one : Condition). IsTrue (is_left_side x one.left)) c more h)
    (placed_of x (suc place) more (All-tail (λ (one : Condition). IsTrue (is_left_side x one.left)) c more h))

onto_of : (Q : Placed → Type 0) (c : Placed) (gs : List (List Placed)) → Q c → All (All Q) gs
    → All (All Q) (onto_first c gs)
onto_of Q c [] h rest = All-cons (All Q) (c ∷ []) [] (All-cons Q c [] h (All-nil Q)) (All-nil (All Q))
onto_of Q c (g ∷ gs) h rest =
    All-cons (All Q) (c ∷ g) gs (All-cons Q c g h (All-head (All Q) g gs rest)) (All-tail (All Q) g gs rest)

groups_by : (Q : Placed → Type 0) (c : Placed) (gs : List (List Placed)) (b : Bool) → Q c → All (All Q) gs
    → All (All Q) (cond b ((c ∷ []) ∷ gs) (onto_first c gs))
groups_by Q c gs true h rest = All-cons (All Q) (c ∷ []) gs (All-cons Q c [] h (All-nil Q)) rest
groups_by Q c gs false h rest = onto_of Q c gs h rest

groups_of : (Q : Placed → Type 0) (begins : Placed → Bool) (cs : List Placed) → All Q cs
    → All (All Q) (groups begins cs)
unfolding groups
groups_of Q begins [] h = All-nil (All Q)
groups_of Q begins (c ∷ more) h =
    groups_by Q c (groups begins more) (ends_before begins more) (All-head Q c more h)
    (groups_of Q begins more (All-tail Q c more h))

-- ---- clauses
abbrev ClauseIs : Rules → Clause → Type 0
ClauseIs x clause = All (PartReads x) clause.parts

only_of : (x : Rules) (parts : List Part) (part : Part) → All (PartReads x) parts
    → only_part parts ≡ Some part → PartReads x part
only_of x [] part h e = absurd (grind arith)
only_of x (one ∷ []) part h e =
    let same : one ≡ part = grind arith in subst (PartReads x) same (All-head (PartReads x) one [] h)
only_of x (one ∷ next ∷ more) part h e = absurd (grind arith)

met_by : (x : Rules) (o p : Option Part) (one : Part)
    → ((part : Part) → o ≡ Some part → PartReads x part)
    → met_only o p ≡ Some one → PartReads x one
met_by x (Some part) (Some other) one h e = joined_of x intersection_of part other one (h part refl) e
met_by x (Some part) None one h e = absurd (grind arith)
met_by x None other one h e = absurd (grind arith)

with_clause_of_by : (x : Rules) (o : Option Part) (first : Clause) (more : List Clause) (clause : Clause) (later : List Clause)
    → met_clause first clause ≡ o → All (ClauseIs x) (first ∷ more) → All (ClauseIs x) later
    → All (ClauseIs x) (with_clause_by o first more later)
with_clause_of_by x (Some one) first more clause later is h rest =
    let made : Clause = record { parts = one ∷ [] } in
    All-cons (ClauseIs x) made more
    (All-cons (PartReads x) one []
    (met_by x (only_part first.parts) (only_part clause.parts) one
    (λ part e. only_of x first.parts part (All-head (ClauseIs x) first more h) e) is)
    (All-nil (PartReads x)))
    (All-tail (ClauseIs x) first more h)
with_clause_of_by x None first more clause later is h rest =
    All-cons (ClauseIs x) first later (All-head (ClauseIs x) first more h) rest

with_clause_of : (x : Rules) (clauses : List Clause) (clause : Clause)
    → All (ClauseIs x) clauses → ClauseIs x clause → All (ClauseIs x) (with_clause clauses clause)
unfolding with_clause
with_clause_of x [] clause h g = All-cons (ClauseIs x) clause [] g h
with_clause_of x (first ∷ more) clause h g =
    with_clause_of_by x (met_clause first clause) first more clause (with_clause more clause) refl h
    (with_clause_of x more clause (All-tail (ClauseIs x) first more h) g)

with_clauses_of : (x : Rules) (clauses others : List Clause)
    → All (ClauseIs x) clauses → All (ClauseIs x) others → All (ClauseIs x) (with_clauses clauses others)
unfolding with_clauses
with_clauses_of x clauses [] h g = h
with_clauses_of x clauses (clause ∷ more) h g =
    with_clauses_of x (with_clause clauses clause) more
    (with_clause_of x clauses clause h (All-head (ClauseIs x) clause more g))
    (All-tail (ClauseIs x) clause more g)

group_clauses : (x : Rules) (gs : List (List Placed)) → All (All (Reads x)) gs
    → All (ClauseIs x) (map clause_of gs)
group_clauses x [] h = All-nil (ClauseIs x)
group_clauses x (g ∷ gs) h =
    All-cons (ClauseIs x) (clause_of g) (map clause_of gs)
    (conditions_of x [] g (All-nil (PartReads x)) (All-head (All (Reads x)) g gs h))
    (group_clauses x gs (All-tail (All (Reads x)) g gs h))

clauses_read : (x : Rules) (conditions : List Condition) → All (λ c. IsTrue (is_left_side x c.left)) conditions
    → All (ClauseIs x) (clauses_of conditions)
unfolding clauses_of
clauses_read x conditions h =
    let gs : List (List Placed) = groups (λ c. c.condition.joined_by_and) (placed_from 0 conditions) in
    with_clauses_of x [] (map clause_of gs) (All-nil (ClauseIs x))
    (group_clauses x gs (groups_of (Reads x) (λ c. c.condition.joined_by_and) (placed_from 0 conditions) (placed_of x 0 conditions h)))

-- ---- rows
row_reads : (x : Rules) (at : ActionAt) (clauses : List Clause) (branch : Branch) (possible : Bool) (row : TableRow)
    → All (ClauseIs x) clauses → row_by at clauses branch possible ≡ Some row → RowReads x row
row_reads x at clauses Then true row h e =
    let made : record { action = at; negated = false; clauses = clauses } ≡ row = grind arith in
    subst (RowReads x) made h
row_reads x at clauses Then false row h e = absurd (grind arith)
row_reads x at clauses Otherwise true row h e =
    let made : record { action = at; negated = true; clauses = clauses } ≡ row = grind arith in
    subst (RowReads x) made h
row_reads x at clauses Otherwise false row h e =
    let made : record { action = at; negated = false; clauses = [] } ≡ row = grind arith in
    subst (RowReads x) made (All-nil (ClauseIs x))

one_row : (P : TableRow → Type 0) (o : Option TableRow) → ((row : TableRow) → o ≡ Some row → P row) → All P (as_list o)
one_row P None h = All-nil P
one_row P (Some row) h = All-cons P row [] (h row refl) (All-nil P)

branch_reads : (x : Rules) (place : ℕ) (branch : Branch) (clauses : List Clause) (o : Option ℕ)
    → All (ClauseIs x) clauses → All (RowReads x) (branch_row place branch clauses o)
branch_reads x place branch clauses None h = All-nil (RowReads x)
branch_reads x place branch clauses (Some action) h =
    let at : ActionAt = record { rule = place; branch = branch; action = action } in
    one_row (RowReads x) (row_of at clauses)
    (λ row has. row_reads x at clauses branch (is_possible clauses) row h has)

all_left : (x : Rules) (place : ℕ) (rule : Rule) → slice_get x.rules place ≡ Some rule
    → All (λ c. IsTrue (is_left_side x c.left)) rule.conditions
all_left x place rule is = λ k d within.
    same_left x place rule k (get_or rule.conditions k d) (get_or rule.conditions k d).left is
    (slice_get-get_or rule.conditions k d within) refl

rule_reads : (x : Rules) (link place : ℕ) (o : Option Rule) → slice_get x.rules place ≡ o
    → All (RowReads x) (rule_rows link place o)
unfolding branch_rows
rule_reads x link place None is = All-nil (RowReads x)
rule_reads x link place (Some rule) is =
    let clauses = clauses_read x rule.conditions (all_left x place rule is) in
    All-append (RowReads x) (branch_rows link place Then rule) (branch_rows link place Otherwise rule)
    (branch_reads x place Then (clauses_of rule.conditions) (first_on link rule.then_actions) clauses)
    (branch_reads x place Otherwise (clauses_of rule.conditions) (first_on link rule.else_actions) clauses)

cut_by : (P : TableRow → Type 0) (row : TableRow) (more : List TableRow) (b : Bool) → P row → All P more
    → All P (cond b (row ∷ []) (row ∷ more))
cut_by P row more true h rest = All-cons P row [] h (All-nil P)
cut_by P row more false h rest = All-cons P row more h rest

all_cut : (P : TableRow → Type 0) (rows : List TableRow) → All P rows → All P (cut rows)
unfolding cut
all_cut P [] h = h
all_cut P (row ∷ more) h =
    cut_by P row (cut more) (is_always row) (All-head P row more h) (all_cut P more (All-tail P row more h))

all_flat : (P : TableRow → Type 0) (f : ℕ → List TableRow) (xs : List ℕ) → ((n : ℕ) → All P (f n)) → All P (flat_map f xs)
all_flat P f [] h = All-nil P
all_flat P f (n ∷ xs) h = All-append P (f n) (flat_map f xs) (h n) (all_flat P f xs h)

rows_read : (x : Rules) (link : ℕ) → All (RowReads x) (rows_on x.rules link)
unfolding rows_on
rows_read x link =
    let P : TableRow → Type 0 = RowReads x in
    all_cut P (flat_map (λ place. rule_rows link place (slice_get x.rules place)) (ranked x.rules))
    (all_flat P (λ place. rule_rows link place (slice_get x.rules place)) (ranked x.rules)
    (λ place. rule_reads x link place (slice_get x.rules place) refl))

tables_read : (x : Rules) (links : List ℕ)
    → All (λ (table : LinkTable). All (RowReads x) table.rows)
    (map (λ link. record { link = link; rows = rows_on x.rules link }) links)
tables_read x [] = All-nil (λ (table : LinkTable). All (RowReads x) table.rows)
tables_read x (link ∷ more) =
    All-cons (λ (table : LinkTable). All (RowReads x) table.rows)
    (record { link = link; rows = rows_on x.rules link })
    (map (λ (link : ℕ). record { link = link; rows = rows_on x.rules link }) more)
    (rows_read x link) (tables_read x more)

same_links : (x : Rules) (links : List ℕ)
    → map (λ (table : LinkTable). table.link) (map (λ link. record { link = link; rows = rows_on x.rules link }) links) ≡ links
same_links x [] = refl
same_links x (link ∷ more) = ap (λ l. link ∷ l) (same_links x more)

pub compiled_serve : (x : Rules) → ServesRules x (tables_of x)
unfolding tables_of
compiled_serve x = record { links = same_links x x.controlled; columns = tables_read x x.controlled }
