-- One walk through the conditions gives the clauses of their groups.
use Rattle.std.proofs.Common.{◌≡◌, ℕ, ◌+◌, Bool, true, false, cond, List, [], ◌∷◌, map, refl, sym, ap, ◌∙◌, add-one}
use Rattle.std.specs.List.{onto_first}
use Rattle.rule_types.specs.declared.condition.Condition.{Condition}
use Rattle.rule_meaning.specs.Premise.{Placed, ends_before, groups, placed_from}
use Rattle.table_compiler.specs.declared.part.Part.{Part}
use Rattle.table_compiler.specs.declared.table.Clause.{Clause}
use Rattle.table_compiler.specs.Parts.{part_of, with_part, with_conditions}
use Rattle.table_compiler.specs.Clauses.{clause_of, with_clause, with_clauses, clauses_of}
use Rattle.table_compiler.specs.internal.Grouping.{going}

abbrev begins : Placed → Bool
begins c = c.condition.joined_by_and

-- the clauses of groups, the first of them with these parts before its own
abbrev clauses_from : List Part → List (List Placed) → List Clause
clauses_from parts [] = record { parts = parts } ∷ []
clauses_from parts (group ∷ more) = record { parts = with_conditions parts group } ∷ map clause_of more

onto_from : (parts : List Part) (c : Placed) (gs : List (List Placed)) → clauses_from parts (onto_first c gs) ≡ clauses_from (with_part parts (part_of c.place c.condition)) gs
unfolding with_conditions
onto_from parts c [] = refl
onto_from parts c (g ∷ gs) = refl

fresh_by : (c : Placed) (b : Bool) (gs : List (List Placed)) → clauses_from [] (cond b ((c ∷ []) ∷ gs) (onto_first c gs)) ≡ map clause_of (cond b ((c ∷ []) ∷ gs) (onto_first c gs))
fresh_by c true gs = refl
fresh_by c false [] = refl
fresh_by c false (g ∷ gs) = refl

fresh_from : (c : Placed) (more : List Placed) → clauses_from [] (groups begins (c ∷ more)) ≡ map clause_of (groups begins (c ∷ more))
unfolding groups
fresh_from c more = fresh_by c (ends_before begins more) (groups begins more)

going_by : (clauses : List Clause) (parts : List Part) (c next : Placed) (more : List Placed) (b : Bool) → begins next ≡ b
    → ((cs : List Clause) (ps : List Part) (one : Placed) → one ≡ next → going cs (with_part ps (part_of one.place one.condition)) more ≡ with_clauses cs (clauses_from ps (groups begins (one ∷ more))))
    → going clauses (with_part parts (part_of c.place c.condition)) (next ∷ more) ≡ with_clauses clauses (clauses_from parts (groups begins (c ∷ next ∷ more)))
unfolding going groups with_clauses with_conditions
going_by clauses parts c next more true is later =
    ap (λ b. cond b (going (with_clause clauses (record { parts = with_part parts (part_of c.place c.condition) })) (with_part [] (part_of next.place next.condition)) more) (going clauses (with_part (with_part parts (part_of c.place c.condition)) (part_of next.place next.condition)) more)) is
    ∙ later (with_clause clauses (record { parts = with_part parts (part_of c.place c.condition) })) [] next refl
    ∙ ap (λ cs. with_clauses (with_clause clauses (record { parts = with_part parts (part_of c.place c.condition) })) cs) (fresh_from next more)
    ∙ sym (ap (λ b. with_clauses clauses (clauses_from parts (cond b ((c ∷ []) ∷ groups begins (next ∷ more)) (onto_first c (groups begins (next ∷ more)))))) is)
going_by clauses parts c next more false is later =
    ap (λ b. cond b (going (with_clause clauses (record { parts = with_part parts (part_of c.place c.condition) })) (with_part [] (part_of next.place next.condition)) more) (going clauses (with_part (with_part parts (part_of c.place c.condition)) (part_of next.place next.condition)) more)) is
    ∙ later clauses (with_part parts (part_of c.place c.condition)) next refl
    ∙ ap (λ cs. with_clauses clauses cs) (sym (onto_from parts c (groups begins (next ∷ more))))
    ∙ sym (ap (λ b. with_clauses clauses (clauses_from parts (cond b ((c ∷ []) ∷ groups begins (next ∷ more)) (onto_first c (groups begins (next ∷ more)))))) is)

going_is : (clauses : List Clause) (parts : List Part) (c : Placed) (more : List Placed) → going clauses (with_part parts (part_of c.place c.condition)) more ≡ with_clauses clauses (clauses_from parts (groups begins (c ∷ more)))
unfolding going groups with_clauses with_conditions
going_is clauses parts c [] = refl
going_is clauses parts c (next ∷ more) =
    going_by clauses parts c next more (begins next) refl
    (λ cs ps one e. ap (λ d. going cs (with_part ps (part_of d.place d.condition)) more) e ∙ going_is cs ps next more ∙ ap (λ d. with_clauses cs (clauses_from ps (groups begins (d ∷ more)))) (sym e))

-- the whole walk, from the first condition on
pub walk_is : (c : Condition) (more : List Condition) → going [] (part_of 0 c ∷ []) (placed_from 1 more) ≡ clauses_of (c ∷ more)
unfolding clauses_of placed_from with_part
walk_is c more =
    going_is [] [] (record { place = 0; condition = c }) (placed_from 1 more)
    ∙ ap (with_clauses []) (fresh_from (record { place = 0; condition = c }) (placed_from 1 more))

pub no_conditions : [] ≡ clauses_of []
unfolding clauses_of placed_from groups with_clauses
no_conditions = refl

-- a step of the walk
pub step_begins : (clauses : List Clause) (parts : List Part) (place : ℕ) (c : Condition) (more : List Condition) → c.joined_by_and ≡ true → going clauses parts (placed_from place (c ∷ more)) ≡ going (with_clause clauses (record { parts = parts })) (part_of place c ∷ []) (placed_from (place + 1) more)
unfolding going placed_from with_part part_of
step_begins clauses parts place c more is =
    rw is (ap (λ n. going (with_clause clauses (record { parts = parts })) (part_of place c ∷ []) (placed_from n more)) (sym (add-one place)))

pub step_goes_on : (clauses : List Clause) (parts : List Part) (place : ℕ) (c : Condition) (more : List Condition) → c.joined_by_and ≡ false → going clauses parts (placed_from place (c ∷ more)) ≡ going clauses (with_part parts (part_of place c)) (placed_from (place + 1) more)
unfolding going placed_from part_of
step_goes_on clauses parts place c more is =
    rw is (ap (λ n. going clauses (with_part parts (part_of place c)) (placed_from n more)) (sym (add-one place)))

pub none_left : (clauses : List Clause) (parts : List Part) (place : ℕ) → going clauses parts (placed_from place []) ≡ with_clause clauses (record { parts = parts })
unfolding going placed_from
none_left clauses parts place = refl

-- the same for the lists that are held before and after a step
pub goes_on : (clauses : List Clause) (parts after : List Part) (place : ℕ) (c : Condition) (part : Part) → c.joined_by_and ≡ false → part ≡ part_of place c → after ≡ with_part parts part → (more : List Condition) → going clauses parts (placed_from place (c ∷ more)) ≡ going clauses after (placed_from (place + 1) more)
goes_on clauses parts after place c part is at made more =
    step_goes_on clauses parts place c more is
    ∙ ap (λ list. going clauses list (placed_from (place + 1) more)) (sym (made ∙ ap (with_part parts) at))

pub begins_next : (clauses : List Clause) (parts : List Part) (closed : List Clause) (group after : List Part) (place : ℕ) (c : Condition) (part : Part) → c.joined_by_and ≡ true → part ≡ part_of place c → group ≡ parts → after ≡ part ∷ [] → closed ≡ with_clause clauses (record { parts = group }) → (more : List Condition) → going clauses parts (placed_from place (c ∷ more)) ≡ going closed after (placed_from (place + 1) more)
begins_next clauses parts closed group after place c part is at kept new made more =
    step_begins clauses parts place c more is
    ∙ ap (λ list. going list (part_of place c ∷ []) (placed_from (place + 1) more)) (sym (made ∙ ap (λ g. with_clause clauses (record { parts = g })) kept))
    ∙ ap (λ list. going closed list (placed_from (place + 1) more)) (sym (new ∙ ap (λ p. p ∷ []) at))

-- the walk at its first condition, and at its end
pub walk_starts : (conditions : List Condition) (first : Condition) (more : List Condition) (part : Part) (parts : List Part) → conditions ≡ first ∷ more → part ≡ part_of 0 first → parts ≡ part ∷ [] → going [] parts (placed_from (0 + 1) more) ≡ clauses_of conditions
walk_starts conditions first more part parts is at made =
    ap (λ list. going [] list (placed_from 1 more)) (made ∙ ap (λ p. p ∷ []) at)
    ∙ walk_is first more ∙ ap clauses_of (sym is)

pub walk_ends : (clauses closed : List Clause) (parts : List Part) (place : ℕ) (rest conditions : List Condition) → rest ≡ [] → going clauses parts (placed_from place rest) ≡ clauses_of conditions → closed ≡ with_clause clauses (record { parts = parts }) → closed ≡ clauses_of conditions
walk_ends clauses closed parts place rest conditions none is made =
    made ∙ sym (none_left clauses parts place) ∙ ap (λ list. going clauses parts (placed_from place list)) (sym none) ∙ is
