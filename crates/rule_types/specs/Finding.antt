-- What a name finds among names.
use Rattle.std.specs.Prelude.{ℕ, suc, Bool, List, [], ◌∷◌, if◌then◌else◌}
use Rattle.std.specs.Str.{bytes_eq, str_to_ascii_lowercase}

-- what a name finds: nothing, the name at one place, or several names
pub data Found : Type 0 where
  Nothing : Found
  At : ℕ → Found
  Several : Found

-- the places, counted from `place` on, of the names that pass a test
abbrev pub places_from : ℕ → (List ℕ → Bool) → List (List ℕ) → List ℕ
places_from place passes [] = []
places_from place passes (name ∷ names) =
    if passes name then place ∷ places_from (suc place) passes names
    else places_from (suc place) passes names

-- the one place of a list, if there is just one
abbrev pub only : List ℕ → Found
only [] = Nothing
only (place ∷ []) = At place
only (place ∷ other ∷ more) = Several

-- the first find, or the second where the first finds nothing
abbrev pub else_found : Found → Found → Found
else_found Nothing second = second
else_found (At place) second = At place
else_found Several second = Several

-- whether two names are equal when the case of ASCII letters is ignored
abbrev pub same_ignoring_case : List ℕ → List ℕ → Bool
same_ignoring_case a b = bytes_eq (str_to_ascii_lowercase a) (str_to_ascii_lowercase b)

-- a name finds the one with the same bytes, and where there is none the only one that is equal when
-- case is ignored
abbrev pub finds : List (List ℕ) → List ℕ → Found
finds names name =
    else_found (only (places_from 0 (bytes_eq name) names))
    (only (places_from 0 (same_ignoring_case name) names))
