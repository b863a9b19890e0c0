-- Groups are not empty, and what begins a group is at the head of each later one alone.
use Rattle.std.proofs.Common.{◌≡◌, ℕ, zero, suc, ◌<◌, Bool, true, false, Some, List, [], ◌∷◌}
use Rattle.std.proofs.Common.{length, refl, sym, ap, subst, ◌∙◌, arith, cond}
use Rattle.std.specs.Prelude.{IsSomeAnd}
use Rattle.std.specs.List.{slice_get}
use Rattle.rule_types.specs.declared.condition.Condition.{Condition}
use Rattle.std.specs.List.{onto_first}
use Rattle.rule_meaning.specs.Premise.{groups}

-- nothing of a list begins a group
abbrev NoneBegins : {A : Type 0} → (A → Bool) → List A → Type 0
NoneBegins begins [] = Unit {0}
NoneBegins begins (c ∷ more) = (begins c ≡ false) × NoneBegins begins more

-- a later group begins at its head, and nowhere else
abbrev IsLater : {A : Type 0} → (A → Bool) → List A → Type 0
IsLater begins [] = ⊥
IsLater begins (c ∷ inner) = (begins c ≡ true) × NoneBegins begins inner

abbrev AreLater : {A : Type 0} → (A → Bool) → List (List A) → Type 0
AreLater begins [] = Unit {0}
AreLater begins (g ∷ gs) = IsLater begins g × AreLater begins gs

-- groups of which the first has c as its head
abbrev StartAt : {A : Type 0} → (A → Bool) → A → List (List A) → Type 0
StartAt begins c [] = ⊥
StartAt begins c ([] ∷ gs) = ⊥
StartAt begins c ((d ∷ inner) ∷ gs) = (d ≡ c) × NoneBegins begins inner × AreLater begins gs

later_all : {A : Type 0} (begins : A → Bool) (c : A) (gs : List (List A)) → begins c ≡ true
    → StartAt begins c gs → AreLater begins gs
later_all begins c [] e h = tt
later_all begins c ([] ∷ gs) e h = absurd h
later_all begins c ((d ∷ inner) ∷ gs) e h = ((ap begins h.0 ∙ e, h.1), h.2)

onto_start : {A : Type 0} (begins : A → Bool) (c next : A) (gs : List (List A))
    → begins next ≡ false → StartAt begins next gs → StartAt begins c (onto_first c gs)
onto_start begins c next [] e h = absurd h
onto_start begins c next ([] ∷ gs) e h = absurd h
onto_start begins c next ((d ∷ inner) ∷ gs) e h = (refl, (ap begins h.0 ∙ e, h.1), h.2)

start_by : {A : Type 0} (begins : A → Bool) (b : Bool) (c next : A) (gs : List (List A))
    → begins next ≡ b → StartAt begins next gs
    → StartAt begins c (cond b ((c ∷ []) ∷ gs) (onto_first c gs))
start_by begins true c next gs e h = (refl, tt, later_all begins next gs e h)
start_by begins false c next gs e h = onto_start begins c next gs e h

start_at : {A : Type 0} (begins : A → Bool) (c : A) (more : List A)
    → StartAt begins c (groups begins (c ∷ more))
unfolding groups
start_at begins c [] = (refl, tt, tt)
start_at begins c (next ∷ more) =
    start_by begins (begins next) c next (groups begins (next ∷ more)) refl
    (start_at begins next more)

-- ---- by places
none_at : {A : Type 0} (begins : A → Bool) (inner : List A) (at : ℕ) (d : A)
    → NoneBegins begins inner → slice_get inner at ≡ Some d → begins d ≡ false
none_at begins [] at d h e = grind arith
none_at begins (c ∷ more) zero d h e = let same : c ≡ d = grind arith in ap begins (sym same) ∙ h.0
none_at begins (c ∷ more) (suc at) d h e = none_at begins more at d h.1 e

later_at : {A : Type 0} (begins : A → Bool) (gs : List (List A)) (place : ℕ) (g : List A)
    → AreLater begins gs → slice_get gs place ≡ Some g → IsLater begins g
later_at begins [] place g h e = grind arith
later_at begins (first ∷ gs) zero g h e =
    let same : first ≡ g = grind arith in subst (IsLater begins) same h.0
later_at begins (first ∷ gs) (suc place) g h e = later_at begins gs place g h.1 e

-- ---- what each group of a list of groups is
some_at : {A : Type 0} (begins : A → Bool) (c : A) (gs : List (List A)) (place : ℕ) (g : List A)
    → StartAt begins c gs → slice_get gs place ≡ Some g → 0 < length g
some_at begins c [] place g h e = absurd h
some_at begins c ([] ∷ gs) place g h e = absurd h
some_at begins c ((d ∷ inner) ∷ gs) zero g h e =
    let same : d ∷ inner ≡ g = grind arith in subst (λ t. 0 < length t) same (omega arith)
some_at begins c ((d ∷ inner) ∷ gs) (suc place) [] h e = absurd (later_at begins gs place [] h.2 e)
some_at begins c ((d ∷ inner) ∷ gs) (suc place) (first ∷ g) h e = omega arith

head_at : {A : Type 0} (begins : A → Bool) (c : A) (gs : List (List A)) (place : ℕ) (g : List A)
    → StartAt begins c gs → slice_get gs (suc place) ≡ Some g
    → IsSomeAnd (slice_get g 0) (λ d. begins d ≡ true)
head_at begins c [] place g h e = absurd h
head_at begins c ([] ∷ gs) place g h e = absurd h
head_at begins c ((d ∷ inner) ∷ gs) place [] h e = absurd (later_at begins gs place [] h.2 e)
head_at begins c ((d ∷ inner) ∷ gs) place (first ∷ g) h e =
    (later_at begins gs place (first ∷ g) h.2 e).0

inside_later : {A : Type 0} (begins : A → Bool) (g : List A) (at : ℕ) (d : A) → IsLater begins g
    → slice_get g (suc at) ≡ Some d → begins d ≡ false
inside_later begins [] at d h e = absurd h
inside_later begins (first ∷ inner) at d h e = none_at begins inner at d h.1 e

inside_at : {A : Type 0} (begins : A → Bool) (c : A) (gs : List (List A)) (place : ℕ) (g : List A)
    (at : ℕ) (d : A) → StartAt begins c gs → slice_get gs place ≡ Some g
    → slice_get g (suc at) ≡ Some d → begins d ≡ false
inside_at begins c [] place g at d h e f = absurd h
inside_at begins c ([] ∷ gs) place g at d h e f = absurd h
inside_at begins c ((first ∷ inner) ∷ gs) zero g at d h e f =
    let same : first ∷ inner ≡ g = grind arith in
    none_at begins inner at d h.1 (subst (λ t. slice_get t (suc at) ≡ Some d) (sym same) f)
inside_at begins c ((first ∷ inner) ∷ gs) (suc place) g at d h e f =
    inside_later begins g at d (later_at begins gs place g h.2 e) f

-- ---- the groups of conditions
pub group_not_empty : (begins : Condition → Bool) (cs : List Condition) (place : ℕ)
    (group : List Condition) → slice_get (groups begins cs) place ≡ Some group → 0 < length group
unfolding groups
group_not_empty begins [] place group e = grind arith
group_not_empty begins (c ∷ more) place group e =
    some_at begins c (groups begins (c ∷ more)) place group (start_at begins c more) e

pub group_begins : (begins : Condition → Bool) (cs : List Condition) (place : ℕ)
    (group : List Condition) → slice_get (groups begins cs) (suc place) ≡ Some group
    → IsSomeAnd (slice_get group 0) (λ c. begins c ≡ true)
unfolding groups
group_begins begins [] place group e = grind arith
group_begins begins (c ∷ more) place group e =
    head_at begins c (groups begins (c ∷ more)) place group (start_at begins c more) e

pub group_goes_on : (begins : Condition → Bool) (cs : List Condition) (place : ℕ)
    (group : List Condition) (at : ℕ) (c : Condition)
    → slice_get (groups begins cs) place ≡ Some group → slice_get group (suc at) ≡ Some c
    → begins c ≡ false
unfolding groups
group_goes_on begins [] place group at d e f = grind arith
group_goes_on begins (c ∷ more) place group at d e f =
    inside_at begins c (groups begins (c ∷ more)) place group at d (start_at begins c more) e f
