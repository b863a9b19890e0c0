-- Groups of things, and premises over groups of conditions.
use Rattle.std.proofs.Common.{◌≡◌, ℕ, suc, ◌+◌, Bool, true, false, not, Some, List, [], ◌∷◌, refl, ap, sym, subst, ◌∙◌, arith, cond}
use Rattle.std.specs.Prelude.{◌||◌}
use Rattle.std.specs.List.{list_all, list_any, flat_map, slice_get, onto_first, AllZip}
use Rattle.rule_types.specs.declared.condition.Condition.{Condition}
use Rattle.rule_meaning.specs.Premise.{ends_before, groups, premise_by, Placed, placed_from, premise_at}

joined_onto : {A : Type 0} (c : A) (gs : List (List A)) → flat_map (λ g. g) (onto_first c gs) ≡ c ∷ flat_map (λ g. g) gs
joined_onto c [] = refl
joined_onto c (g ∷ gs) = refl

joined_by : {A : Type 0} (begins : A → Bool) (b : Bool) (c : A) (more : List A) → ends_before begins more ≡ b → flat_map (λ g. g) (groups begins more) ≡ more → flat_map (λ g. g) (groups begins (c ∷ more)) ≡ c ∷ more
unfolding groups
joined_by begins true c more is h = rw is (ap (λ t. c ∷ t) h)
joined_by begins false c more is h = rw is (joined_onto c (groups begins more) ∙ ap (λ t. c ∷ t) h)

pub groups_in_a_row : {A : Type 0} (begins : A → Bool) (things : List A) → flat_map (λ g. g) (groups begins things) ≡ things
unfolding groups
groups_in_a_row begins [] = refl
groups_in_a_row begins (c ∷ more) = joined_by begins (ends_before begins more) c more refl (groups_in_a_row begins more)

begins_all : (more : List Condition) → list_all (λ c. c.joined_by_and) more ≡ true → ends_before (λ c. c.joined_by_and) more ≡ true
begins_all [] h = refl
begins_all (c ∷ more) h = grind arith

pub all_by_and : (truth : Condition → Bool) (cs : List Condition) → list_all (λ c. c.joined_by_and) cs ≡ true → premise_by truth cs ≡ list_all truth cs
unfolding groups premise_by
all_by_and truth [] h = refl
all_by_and truth (c ∷ more) h =
    let rest : list_all (λ c. c.joined_by_and) more ≡ true = grind arith in
    let later : premise_by truth more ≡ list_all truth more = all_by_and truth more rest in
    rw (begins_all more rest) (rw later (grind arith))

second_of : {A : Type 0} (b : Bool) (u v : A) → b ≡ false → cond b u v ≡ v
second_of b u v h = rw h refl

one_group : (c : Condition) (more : List Condition) → list_all (λ c. not c.joined_by_and) more ≡ true → groups (λ c. c.joined_by_and) (c ∷ more) ≡ (c ∷ more) ∷ []
unfolding groups
one_group c [] h = refl
one_group c (next ∷ more) h =
    let off : next.joined_by_and ≡ false = grind arith in
    let rest : list_all (λ c. not c.joined_by_and) more ≡ true = grind arith in
    let later : groups (λ c. c.joined_by_and) (next ∷ more) ≡ (next ∷ more) ∷ [] = one_group next more rest in
    second_of next.joined_by_and ((c ∷ []) ∷ groups (λ c. c.joined_by_and) (next ∷ more)) (onto_first c (groups (λ c. c.joined_by_and) (next ∷ more))) off ∙ ap (onto_first c) later

pub all_by_or : (truth : Condition → Bool) (c : Condition) (more : List Condition) → list_all (λ c. not c.joined_by_and) more ≡ true → premise_by truth (c ∷ more) ≡ list_any truth (c ∷ more)
unfolding premise_by
all_by_or truth c more h = ap (list_all (list_any truth)) (one_group c more h) ∙ grind arith

-- ---- two lists of things that begin groups alike and pass alike are cut into groups that pass alike
abbrev Alike : {A B : Type 0} → (A → Bool) → (A → Bool) → (B → Bool) → (B → Bool) → List A → List B → Type 0
Alike begins passes starts holds things others = AllZip (λ a b. (begins a ≡ starts b) × (passes a ≡ holds b)) things others

abbrev PassAlike : {A B : Type 0} → (A → Bool) → (B → Bool) → List (List A) → List (List B) → Type 0
PassAlike passes holds gs hs = AllZip (λ g h. list_any passes g ≡ list_any holds h) gs hs

ends_alike : {A B : Type 0} (begins passes : A → Bool) (starts holds : B → Bool) (xs : List A) (ys : List B) → Alike begins passes starts holds xs ys → ends_before begins xs ≡ ends_before starts ys
ends_alike begins passes starts holds [] [] h = refl
ends_alike begins passes starts holds [] (y ∷ ys) h = absurd h
ends_alike begins passes starts holds (x ∷ xs) [] h = absurd h
ends_alike begins passes starts holds (x ∷ xs) (y ∷ ys) h = h.0.0

onto_alike : {A B : Type 0} (passes : A → Bool) (holds : B → Bool) (x : A) (y : B) (gs : List (List A)) (hs : List (List B)) → passes x ≡ holds y → PassAlike passes holds gs hs → PassAlike passes holds (onto_first x gs) (onto_first y hs)
onto_alike passes holds x y [] [] e h = (ap (λ z. z || false) e, tt)
onto_alike passes holds x y [] (k ∷ hs) e h = absurd h
onto_alike passes holds x y (g ∷ gs) [] e h = absurd h
onto_alike passes holds x y (g ∷ gs) (k ∷ hs) e h = (rw (e, h.0) refl, h.1)

joined_alike : {A B : Type 0} (passes : A → Bool) (holds : B → Bool) (x : A) (y : B) (gs : List (List A)) (hs : List (List B)) (b : Bool) → passes x ≡ holds y → PassAlike passes holds gs hs → PassAlike passes holds (cond b ((x ∷ []) ∷ gs) (onto_first x gs)) (cond b ((y ∷ []) ∷ hs) (onto_first y hs))
joined_alike passes holds x y gs hs true e h = (ap (λ z. z || false) e, h)
joined_alike passes holds x y gs hs false e h = onto_alike passes holds x y gs hs e h

groups_alike : {A B : Type 0} (begins passes : A → Bool) (starts holds : B → Bool) (xs : List A) (ys : List B) → Alike begins passes starts holds xs ys → PassAlike passes holds (groups begins xs) (groups starts ys)
unfolding groups
groups_alike begins passes starts holds [] [] h = tt
groups_alike begins passes starts holds [] (y ∷ ys) h = absurd h
groups_alike begins passes starts holds (x ∷ xs) [] h = absurd h
groups_alike begins passes starts holds (x ∷ xs) (y ∷ ys) h =
    let later = groups_alike begins passes starts holds xs ys h.1 in
    subst (λ b. PassAlike passes holds (cond (ends_before begins xs) ((x ∷ []) ∷ groups begins xs) (onto_first x (groups begins xs))) (cond b ((y ∷ []) ∷ groups starts ys) (onto_first y (groups starts ys))))
    (ends_alike begins passes starts holds xs ys h.1)
    (joined_alike passes holds x y (groups begins xs) (groups starts ys) (ends_before begins xs) h.0.1 later)

all_alike : {A B : Type 0} (passes : A → Bool) (holds : B → Bool) (gs : List (List A)) (hs : List (List B)) → PassAlike passes holds gs hs → list_all (list_any passes) gs ≡ list_all (list_any holds) hs
all_alike passes holds [] [] h = refl
all_alike passes holds [] (k ∷ hs) h = absurd h
all_alike passes holds (g ∷ gs) [] h = absurd h
all_alike passes holds (g ∷ gs) (k ∷ hs) h = rw (h.0, all_alike passes holds gs hs h.1) refl

pub cut_alike : {A B : Type 0} (begins passes : A → Bool) (starts holds : B → Bool) (xs : List A) (ys : List B) → Alike begins passes starts holds xs ys → list_all (list_any passes) (groups begins xs) ≡ list_all (list_any holds) (groups starts ys)
cut_alike begins passes starts holds xs ys h =
    all_alike passes holds (groups begins xs) (groups starts ys) (groups_alike begins passes starts holds xs ys h)

-- so a premise whose truths are told by place
abbrev placed_truth : (ℕ → Condition → Bool) → Placed → Bool
placed_truth by_place c = by_place c.place c.condition

placed_alike : (by_place : ℕ → Condition → Bool) (truth : Condition → Bool) (n : ℕ) (cs : List Condition) → ((k : ℕ) (c : Condition) → slice_get cs k ≡ Some c → by_place (k + n) c ≡ truth c) → Alike (λ c. c.condition.joined_by_and) (placed_truth by_place) (λ c. c.joined_by_and) truth (placed_from n cs) cs
unfolding placed_from
placed_alike by_place truth n [] h = tt
placed_alike by_place truth n (c ∷ more) h =
    let start : 0 + n ≡ n = omega arith in (
      (refl, ap (λ m. by_place m c) (sym start) ∙ h 0 c refl),
      placed_alike by_place truth (suc n) more (λ k d is.
          (let next : k + suc n ≡ suc k + n = omega arith in ap (λ m. by_place m d) next ∙ h (suc k) d is)),
    )

pub by_place_alike : (by_place : ℕ → Condition → Bool) (truth : Condition → Bool) (cs : List Condition) → ((place : ℕ) (c : Condition) → slice_get cs place ≡ Some c → by_place place c ≡ truth c) → premise_at by_place cs ≡ premise_by truth cs
unfolding premise_at premise_by
by_place_alike by_place truth cs h =
    cut_alike (λ c. c.condition.joined_by_and) (placed_truth by_place) (λ c. c.joined_by_and) truth (placed_from 0 cs) cs
    (placed_alike by_place truth 0 cs (λ k c is. (let e : k + 0 ≡ k = omega arith in ap (λ m. by_place m c) e ∙ h k c is)))
