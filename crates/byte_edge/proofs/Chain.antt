-- Facts of the bytes left in a slot, one call after the other.
use Rattle.std.proofs.Common.{◌≡◌, ℕ, List, Some, None, IfSome, Option, subst}
use Rattle.byte_edge.specs.ReaderState.{ReaderState, WhenKnown, KnowsEnd}

-- a fact of two calls from a fact of each
pub WhenKnown-then : (a b c : Option (List ℕ)) (P Q R : List ℕ → List ℕ → Type 0)
    → ((xs ys zs : List ℕ) → P xs ys → Q ys zs → R xs zs) → WhenKnown a b P → WhenKnown b c Q → WhenKnown a c R
WhenKnown-then None b c P Q R both first second = tt
WhenKnown-then (Some xs) None c P Q R both first second = absurd first
WhenKnown-then (Some xs) (Some ys) None P Q R both first second = second
WhenKnown-then (Some xs) (Some ys) (Some zs) P Q R both first second = both xs ys zs first second

-- a fact of the bytes before alone
pub WhenKnown-before : (a b : Option (List ℕ)) (P : List ℕ → List ℕ → Type 0) (Q : List ℕ → Type 0)
    → ((xs ys : List ℕ) → P xs ys → Q xs) → WhenKnown a b P → IfSome a Q
WhenKnown-before None b P Q weaken first = tt
WhenKnown-before (Some xs) None P Q weaken first = absurd first
WhenKnown-before (Some xs) (Some ys) P Q weaken first = weaken xs ys first

-- a fact before any call
pub WhenKnown-start : (a : Option (List ℕ)) (P : List ℕ → List ℕ → Type 0) → ((xs : List ℕ) → P xs xs) → WhenKnown a a P
WhenKnown-start None P holds = tt
WhenKnown-start (Some xs) P holds = holds xs

-- a fact that follows from another
pub WhenKnown-map : (a b : Option (List ℕ)) (P Q : List ℕ → List ℕ → Type 0)
    → ((xs ys : List ℕ) → P xs ys → Q xs ys) → WhenKnown a b P → WhenKnown a b Q
WhenKnown-map None b P Q weaken first = tt
WhenKnown-map (Some xs) None P Q weaken first = first
WhenKnown-map (Some xs) (Some ys) P Q weaken first = weaken xs ys first

-- the slot by its number
pub WhenKnown-at : (left left' : ℕ → Option (List ℕ)) (slot number : ℕ) (P : List ℕ → List ℕ → Type 0)
    → slot ≡ number → WhenKnown (left slot) (left' slot) P → WhenKnown (left number) (left' number) P
WhenKnown-at left left' slot number P is known = let Q : ℕ → Type 0 = λ k. WhenKnown (left k) (left' k) P in subst Q is known

pub KnowsEnd-at : (left left' : ℕ → Option (List ℕ)) (slot number : ℕ) (old new : ReaderState) → slot ≡ number
    → (KnowsEnd old (left slot) → KnowsEnd new (left' slot)) → KnowsEnd old (left number) → KnowsEnd new (left' number)
KnowsEnd-at left left' slot number old new is at_end =
    let P : ℕ → Type 0 = λ k. KnowsEnd old (left k) → KnowsEnd new (left' k) in subst P is at_end
