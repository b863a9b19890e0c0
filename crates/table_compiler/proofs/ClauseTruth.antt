-- A clause is as true as its group of conditions, and the clauses of a premise as the premise,
-- whatever truth parts have, as long as united and met parts agree with it.
use Rattle.std.proofs.Common.{◌≡◌, Bool, true, false, Option, Some, None, List, [], ◌∷◌, map, refl, sym, ap, ◌∙◌, arith}
use Rattle.std.specs.Prelude.{◌&&◌, ◌||◌}
use Rattle.std.specs.List.{list_all, list_any}
use Rattle.std.proofs.lemmas.List.Folds.{list_all-map}
use Rattle.rule_types.specs.declared.condition.Condition.{Condition}
use Rattle.rule_meaning.specs.Premise.{Placed, groups, placed_from, premise_at}
use Rattle.table_compiler.specs.declared.part.Part.{Part}
use Rattle.table_compiler.specs.declared.table.Clause.{Clause}
use Rattle.table_compiler.specs.Parts.{part_of, united_part, met_part, part_before, with_part_by, with_part, with_conditions}
use Rattle.table_compiler.specs.Clauses.{clause_of, only_part, met_only, met_clause, with_clause_by, with_clause, with_clauses, clauses_of}

-- a united part holds where some part does, and a met one where both do
pub record Unites (truth : Part → Bool) : Type 0 where
  pub united : (part other one : Part) → united_part part other ≡ Some one → truth one ≡ (truth part || truth other)
  pub met : (part other one : Part) → met_part part other ≡ Some one → truth one ≡ (truth part && truth other)

-- whether some part of a clause has the truth
abbrev pub any_true : (Part → Bool) → Clause → Bool
any_true truth clause = list_any truth clause.parts

-- ---- tests
or_last : (a b c : Bool) → ((a || c) || b) ≡ ((a || b) || c)
or_last true b c = refl
or_last false true true = refl
or_last false true false = refl
or_last false false true = refl
or_last false false false = refl

or_apart : (a b c : Bool) → (a || (b || c)) ≡ ((a || b) || c)
or_apart true b c = refl
or_apart false b c = refl

or_behind : (a b c : Bool) → (c || (a || b)) ≡ ((a || b) || c)
or_behind true true true = refl
or_behind true true false = refl
or_behind true false true = refl
or_behind true false false = refl
or_behind false true true = refl
or_behind false true false = refl
or_behind false false true = refl
or_behind false false false = refl

pub or_false : (a : Bool) → (a || false) ≡ a
or_false true = refl
or_false false = refl

and_last : (a b c : Bool) → ((a && c) && b) ≡ ((a && b) && c)
and_last true true true = refl
and_last true true false = refl
and_last true false true = refl
and_last true false false = refl
and_last false b c = refl

and_apart : (a b c : Bool) → (a && (b && c)) ≡ ((a && b) && c)
and_apart true b c = refl
and_apart false b c = refl

and_true : (a : Bool) → (a && true) ≡ a
and_true true = refl
and_true false = refl

-- ---- parts
with_part_any_by : (truth : Part → Bool) → Unites truth → (o : Option Part) (before : Bool) (first : Part) (more : List Part) (part : Part) (later : List Part) → united_part first part ≡ o → list_any truth later ≡ (list_any truth more || truth part) → list_any truth (with_part_by o before first more part later) ≡ ((truth first || list_any truth more) || truth part)
with_part_any_by truth u (Some one) before first more part later is h =
    ap (λ b. b || list_any truth more) (u.united first part one is) ∙ or_last (truth first) (list_any truth more) (truth part)
with_part_any_by truth u None true first more part later is h =
    ap (λ b. truth first || b) h ∙ or_apart (truth first) (list_any truth more) (truth part)
with_part_any_by truth u None false first more part later is h =
    or_behind (truth first) (list_any truth more) (truth part)

pub with_part_any : (truth : Part → Bool) → Unites truth → (parts : List Part) (part : Part) → list_any truth (with_part parts part) ≡ (list_any truth parts || truth part)
unfolding with_part
with_part_any truth u [] part = or_false (truth part)
with_part_any truth u (first ∷ more) part =
    with_part_any_by truth u (united_part first part) (part_before first part) first more part (with_part more part) refl
    (with_part_any truth u more part)

abbrev placed_truth : (Part → Bool) → Placed → Bool
placed_truth truth c = truth (part_of c.place c.condition)

pub with_conditions_any : (truth : Part → Bool) → Unites truth → (parts : List Part) (group : List Placed) → list_any truth (with_conditions parts group) ≡ (list_any truth parts || list_any (placed_truth truth) group)
unfolding with_conditions
with_conditions_any truth u parts [] = sym (or_false (list_any truth parts))
with_conditions_any truth u parts (c ∷ more) =
    with_conditions_any truth u (with_part parts (part_of c.place c.condition)) more
    ∙ ap (λ b. b || list_any (placed_truth truth) more) (with_part_any truth u parts (part_of c.place c.condition))
    ∙ sym (or_apart (list_any truth parts) (placed_truth truth c) (list_any (placed_truth truth) more))

-- ---- clauses
met_true : (truth : Part → Bool) → Unites truth → (parts others : List Part) (part : Part) → met_only (only_part parts) (only_part others) ≡ Some part → (truth part || false) ≡ (list_any truth parts && list_any truth others)
met_true truth u [] others part is = absurd (none_is_some part is)
  where
    none_is_some : (one : Part) → None ≡ Some one → ⊥
    none_is_some one e = grind arith
met_true truth u (p ∷ []) [] part is = grind arith
met_true truth u (p ∷ []) (q ∷ []) part is =
    or_false (truth part) ∙ u.met p q part is
    ∙ ap (λ b. b && truth q) (sym (or_false (truth p)))
    ∙ ap (λ b. (truth p || false) && b) (sym (or_false (truth q)))
met_true truth u (p ∷ []) (q ∷ r ∷ more) part is = grind arith
met_true truth u (p ∷ q ∷ more) others part is = grind arith

with_clause_all_by : (truth : Part → Bool) → Unites truth → (o : Option Part) (first : Clause) (more : List Clause) (clause : Clause) (later : List Clause) → met_clause first clause ≡ o → list_all (any_true truth) later ≡ (list_all (any_true truth) more && any_true truth clause) → list_all (any_true truth) (with_clause_by o first more later) ≡ ((any_true truth first && list_all (any_true truth) more) && any_true truth clause)
with_clause_all_by truth u (Some part) first more clause later is h =
    ap (λ b. b && list_all (any_true truth) more) (met_true truth u first.parts clause.parts part is)
    ∙ and_last (any_true truth first) (list_all (any_true truth) more) (any_true truth clause)
with_clause_all_by truth u None first more clause later is h =
    ap (λ b. any_true truth first && b) h ∙ and_apart (any_true truth first) (list_all (any_true truth) more) (any_true truth clause)

pub with_clause_all : (truth : Part → Bool) → Unites truth → (clauses : List Clause) (clause : Clause) → list_all (any_true truth) (with_clause clauses clause) ≡ (list_all (any_true truth) clauses && any_true truth clause)
unfolding with_clause
with_clause_all truth u [] clause = and_true (any_true truth clause)
with_clause_all truth u (first ∷ more) clause =
    with_clause_all_by truth u (met_clause first clause) first more clause (with_clause more clause) refl
    (with_clause_all truth u more clause)

pub with_clauses_all : (truth : Part → Bool) → Unites truth → (clauses others : List Clause) → list_all (any_true truth) (with_clauses clauses others) ≡ (list_all (any_true truth) clauses && list_all (any_true truth) others)
unfolding with_clauses
with_clauses_all truth u clauses [] = sym (and_true (list_all (any_true truth) clauses))
with_clauses_all truth u clauses (clause ∷ more) =
    with_clauses_all truth u (with_clause clauses clause) more
    ∙ ap (λ b. b && list_all (any_true truth) more) (with_clause_all truth u clauses clause)
    ∙ sym (and_apart (list_all (any_true truth) clauses) (any_true truth clause) (list_all (any_true truth) more))

pub clauses_premise : (truth : Part → Bool) → Unites truth → (conditions : List Condition) → list_all (any_true truth) (clauses_of conditions) ≡ premise_at (λ place c. truth (part_of place c)) conditions
unfolding clauses_of premise_at
clauses_premise truth u conditions =
    let gs : List (List Placed) = groups (λ c. c.condition.joined_by_and) (placed_from 0 conditions) in
    with_clauses_all truth u [] (map clause_of gs)
    ∙ list_all-map (any_true truth) clause_of gs
    ∙ (λ i. list_all (λ group. with_conditions_any truth u [] group i) gs)
