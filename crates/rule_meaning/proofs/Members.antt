-- Being one of a list, by its first element and the others.
use Rattle.std.proofs.Common.{◌≡◌, ℕ, zero, suc, ◌<◌, List, [], ◌∷◌, length, ◌⊎◌, inl, inr}
use Rattle.std.proofs.Common.{⊎_elim, arith}
use Rattle.std.specs.Prelude.{Contains, slice_index_or}

pub none_in : {A : Type 0} (x : A) → Contains [] x → ⊥
none_in x c = omega (arith, c.1)

pub at_first : {A : Type 0} (y : A) (ys : List A) (x : A) → y ≡ x → Contains (y ∷ ys) x
at_first y ys x e = (0, omega arith, e)

pub at_later : {A : Type 0} (y : A) (ys : List A) (x : A) → Contains ys x → Contains (y ∷ ys) x
at_later y ys x c = let below = c.1 in (suc c.0, omega (arith, below), c.2)

place_cases : {A : Type 0} (y : A) (ys : List A) (x : A) (k : ℕ) → k < length (y ∷ ys)
    → slice_index_or (y ∷ ys) k x ≡ x → (y ≡ x) ⊎ Contains ys x
place_cases y ys x zero below e = inl e
place_cases y ys x (suc k) below e = inr (k, omega (arith, below), e)

pub in_cases : {A : Type 0} (y : A) (ys : List A) (x : A) → Contains (y ∷ ys) x
    → (y ≡ x) ⊎ Contains ys x
in_cases y ys x c = place_cases y ys x c.0 c.1 c.2

-- what holds of the first and of the others
pub in_each : {A : Type 0} (P : A → Type 0) (y : A) (ys : List A) (x : A) → (y ≡ x → P x)
    → (Contains ys x → P x)
    → Contains (y ∷ ys) x → P x
in_each P y ys x first later c = ⊎_elim first later (in_cases y ys x c)
