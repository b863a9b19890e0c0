-- Facts of which none can be left out.
use Rattle.std.specs.Prelude.{ℕ, Bool, true, not, ◌&&◌, if◌then◌else◌, List, [], ◌∷◌, ◌++◌}

-- whether facts are accepted
abbrev pub Acceptance : Type 0
Acceptance = List (ℕ × Bool) → Bool

-- the facts that are kept, with one more where these and the rest are not accepted without it
abbrev pub kept_with : Acceptance → List (ℕ × Bool) → ℕ × Bool → List (ℕ × Bool) → List (ℕ × Bool)
kept_with accepts kept fact rest = if accepts (kept ++ rest) then kept else kept ++ (fact ∷ [])

-- what one pass leaves: those kept so far, and of the rest each without which the others are not
-- accepted
unfoldable pub lean_of : Acceptance → List (ℕ × Bool) → List (ℕ × Bool) → List (ℕ × Bool)
lean_of accepts kept [] = kept
lean_of accepts kept (fact ∷ rest) =
    lean_of accepts (kept_with accepts kept fact rest) rest

-- whether no fact can be left out, where those before are passed
unfoldable pub none_spare : Acceptance → List (ℕ × Bool) → List (ℕ × Bool) → Bool
none_spare accepts before [] = true
none_spare accepts before (fact ∷ more) =
    not (accepts (before ++ more)) && none_spare accepts (before ++ (fact ∷ [])) more
