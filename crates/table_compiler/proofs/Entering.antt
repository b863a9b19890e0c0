-- What is entered in a list at the place of the first that stops it.
use Rattle.std.proofs.Common.{◌≡◌, ℕ, zero, suc, ◌<◌, ◌≤◌, Bool, true, false, cond, ltb, Option, Some, None, List, [], ◌∷◌, ◌++◌, length, get_or, set, take, drop, refl, sym, ap, ◌∙◌, arith, add-one}
use Rattle.std.specs.Prelude.{not, ◌||◌}
use Rattle.std.specs.Option.{is_some}
use Rattle.std.specs.List.{insert, position, position_or_len}
use Rattle.std.proofs.lemmas.Bool.{ltb-false}
use Rattle.std.proofs.lemmas.List.{take_all, drop_all, drop_more, set_split}
use Rattle.std.proofs.lemmas.List.Quantifiers.{position-Some}
use Rattle.std.proofs.lemmas.List.Sums.{fails_before_first}
use Rattle.table_compiler.specs.declared.part.Part.{Part}
use Rattle.table_compiler.specs.declared.table.Clause.{Clause}
use Rattle.table_compiler.specs.Parts.{united_part, part_before, with_part_by, with_part}
use Rattle.table_compiler.specs.Clauses.{met_clause, with_clause_by, with_clause}
use Rattle.table_compiler.specs.internal.PartPlaces.{is_past, is_met}

-- a function of lists goes past each item that does not stop it, and ends with one item
pub record GoesPast {A : Type 0} (stops : A → Bool) (new : A) (f : List A → List A) : Type 0 where
  pub end : f [] ≡ new ∷ []
  pub past : (first : A) (more : List A) → stops first ≡ false → f (first ∷ more) ≡ first ∷ f more

up_to : {A : Type 0} (stops : A → Bool) (new : A) (f : List A → List A) → GoesPast stops new f → (xs : List A) (i : ℕ) → i ≤ length xs → ((k : ℕ) (d : A) → k < i → stops (get_or xs k d) ≡ false) → f xs ≡ take i xs ++ f (drop i xs)
up_to stops new f g xs zero within h = refl
up_to stops new f g [] (suc i) within h = absurd (omega arith)
up_to stops new f g (x ∷ xs) (suc i) within h =
    g.past x xs (h 0 x (omega arith))
    ∙ ap (λ ys. x ∷ ys) (up_to stops new f g xs i (omega arith) (λ k d below. h (suc k) d (omega arith)))

-- no place stops it
none_place : {A : Type 0} (p : A → Bool) (xs : List A) (b : Bool) → ltb (position_or_len p xs) (length xs) ≡ b → position p xs ≡ None → length xs ≤ position_or_len p xs
none_place p xs true is h = absurd (let e : Some (position_or_len p xs) ≡ None = sym (ap (λ b. cond b (Some (position_or_len p xs)) None) is) ∙ h in grind arith)
none_place p xs false is h = ltb-false (position_or_len p xs) (length xs) is

pub at_end : {A : Type 0} (stops : A → Bool) (new : A) (f : List A → List A) → GoesPast stops new f → (xs : List A) → position stops xs ≡ None → f xs ≡ xs ++ new ∷ []
at_end stops new f g xs h =
    let long = none_place stops xs (ltb (position_or_len stops xs) (length xs)) refl h in
    up_to stops new f g xs (length xs) (omega arith) (λ k d below. fails_before_first stops xs k d (omega arith))
    ∙ ap (λ ys. ys ++ f (drop (length xs) xs)) (take_all (length xs) xs (omega arith))
    ∙ ap (λ ys. xs ++ f ys) (drop_all (length xs) xs (omega arith))
    ∙ ap (λ ys. xs ++ ys) g.end

-- the first place that stops it
at_place : {A : Type 0} (stops : A → Bool) (new : A) (f : List A → List A) → GoesPast stops new f → (xs : List A) (i : ℕ) (d : A) → position stops xs ≡ Some i → f xs ≡ take i xs ++ f (get_or xs i d ∷ drop (suc i) xs)
at_place stops new f g xs i d h =
    let within : i < length xs = (position-Some stops xs i d h).0 in
    up_to stops new f g xs i (omega arith) (λ k e below. (position-Some stops xs i e h).2 k below)
    ∙ ap (λ ys. take i xs ++ f ys) (drop_more xs i d within ∙ ap (λ n. get_or xs i d ∷ drop n xs) (add-one i))

pub set_there : {A : Type 0} (stops : A → Bool) (new one : A) (f : List A → List A) → GoesPast stops new f → (xs : List A) (i : ℕ) (d : A) → position stops xs ≡ Some i → f (get_or xs i d ∷ drop (suc i) xs) ≡ one ∷ drop (suc i) xs → f xs ≡ set xs i one
set_there stops new one f g xs i d h is =
    at_place stops new f g xs i d h ∙ ap (λ ys. take i xs ++ ys) is
    ∙ sym (set_split xs i one (position-Some stops xs i d h).0)

pub insert_there : {A : Type 0} (stops : A → Bool) (new : A) (f : List A → List A) → GoesPast stops new f → (xs : List A) (i : ℕ) (d : A) → position stops xs ≡ Some i → f (get_or xs i d ∷ drop (suc i) xs) ≡ new ∷ get_or xs i d ∷ drop (suc i) xs → f xs ≡ insert xs i new
insert_there stops new f g xs i d h is =
    at_place stops new f g xs i d h ∙ ap (λ ys. take i xs ++ ys) is
    ∙ ap (λ ys. take i xs ++ new ∷ ys) (sym (drop_more xs i d (position-Some stops xs i d h).0 ∙ ap (λ n. get_or xs i d ∷ drop n xs) (add-one i)))

-- ---- parts
past_by : (o : Option Part) (before : Bool) (first : Part) (more : List Part) (part : Part) (later : List Part) → (is_some o || not before) ≡ false → with_part_by o before first more part later ≡ first ∷ later
past_by (Some one) before first more part later h = absurd (grind arith)
past_by None true first more part later h = refl
past_by None false first more part later h = absurd (grind arith)

pub parts_past : (part : Part) → GoesPast (λ held. is_past held part) part (λ parts. with_part parts part)
unfolding with_part
parts_past part = record {
  end = refl;
  past = λ first more h. past_by (united_part first part) (part_before first part) first more part (with_part more part) h;
}

pub united_there : (first part one : Part) (more : List Part) → united_part first part ≡ Some one → with_part (first ∷ more) part ≡ one ∷ more
unfolding with_part
united_there first part one more h = ap (λ o. with_part_by o (part_before first part) first more part (with_part more part)) h

before_by : (o : Option Part) (before : Bool) (first : Part) (more : List Part) (part : Part) (later : List Part) → o ≡ None → (is_some o || not before) ≡ true → with_part_by o before first more part later ≡ part ∷ first ∷ more
before_by (Some one) before first more part later h g = absurd (grind arith)
before_by None true first more part later h g = absurd (grind arith)
before_by None false first more part later h g = refl

pub before_there : (first part : Part) (more : List Part) → united_part first part ≡ None → is_past first part ≡ true → with_part (first ∷ more) part ≡ part ∷ first ∷ more
unfolding with_part
before_there first part more h g = before_by (united_part first part) (part_before first part) first more part (with_part more part) h g

-- ---- clauses
clause_past_by : (o : Option Part) (first : Clause) (more later : List Clause) → is_some o ≡ false → with_clause_by o first more later ≡ first ∷ later
clause_past_by (Some part) first more later h = absurd (grind arith)
clause_past_by None first more later h = refl

pub clauses_past : (clause : Clause) → GoesPast (λ held. is_met held clause) clause (λ clauses. with_clause clauses clause)
unfolding with_clause
clauses_past clause = record {
  end = refl;
  past = λ first more h. clause_past_by (met_clause first clause) first more (with_clause more clause) h;
}

pub met_there : (first clause : Clause) (part : Part) (more : List Clause) → met_clause first clause ≡ Some part → with_clause (first ∷ more) clause ≡ record { parts = part ∷ [] } ∷ more
unfolding with_clause
met_there first clause part more h = ap (λ o. with_clause_by o first more (with_clause more clause)) h
