-- Tests of lists, and the connectives of Bool.
use Rattle.std.proofs.Common.{◌≡◌, Bool, true, false, not, ◌&&◌, ◌||◌, List, [], ◌∷◌, ◌⊎◌, inl, inr}
use Rattle.std.proofs.Common.{refl, sym}
use Rattle.std.proofs.lemmas.Bool.{and_parts, and_from, true≢false}
use Rattle.std.specs.List.{list_all, list_any}

pub or_cases : (a b : Bool) → (a || b) ≡ true → (a ≡ true) ⊎ (b ≡ true)
or_cases true b h = inl refl
or_cases false b h = inr h

pub or_left : (a b : Bool) → a ≡ true → (a || b) ≡ true
or_left a b h = rw h refl

pub or_right : (a b : Bool) → b ≡ true → (a || b) ≡ true
or_right true b h = refl
or_right false b h = h

or_by : (a b c d : Bool) → (a ≡ true → c ≡ true) → (b ≡ true → d ≡ true)
    → (a ≡ true) ⊎ (b ≡ true) → (c || d) ≡ true
or_by a b c d f g (inl h) = or_left c d (f h)
or_by a b c d f g (inr h) = or_right c d (g h)

pub or_stays : (a b c d : Bool) → (a ≡ true → c ≡ true) → (b ≡ true → d ≡ true)
    → (a || b) ≡ true → (c || d) ≡ true
or_stays a b c d f g h = or_by a b c d f g (or_cases a b h)

pub and_stays : (a b c d : Bool) → (a ≡ true → c ≡ true) → (b ≡ true → d ≡ true)
    → (a && b) ≡ true → (c && d) ≡ true
and_stays a b c d f g h =
    let parts = and_parts a b h in and_from c d (f parts.0) (g parts.1)

pub any_stays : {A : Type 0} (p q : A → Bool) (xs : List A)
    → ((x : A) → p x ≡ true → q x ≡ true) → list_any p xs ≡ true → list_any q xs ≡ true
any_stays p q [] each h = absurd (true≢false (sym h))
any_stays p q (x ∷ xs) each h =
    or_stays (p x) (list_any p xs) (q x) (list_any q xs) (each x) (any_stays p q xs each) h

pub all_stays : {A : Type 0} (p q : A → Bool) (xs : List A)
    → ((x : A) → p x ≡ true → q x ≡ true) → list_all p xs ≡ true → list_all q xs ≡ true
all_stays p q [] each h = refl
all_stays p q (x ∷ xs) each h =
    and_stays (p x) (list_all p xs) (q x) (list_all q xs) (each x) (all_stays p q xs each) h

-- a test that passes does not fail
pub passes_not : (b : Bool) → b ≡ true → not b ≡ true → ⊥
passes_not true h n = true≢false (sym n)
passes_not false h n = true≢false (sym h)
