-- What the two ordered maps of a table of names keep.
use Rattle.std.specs.Prelude.{◌≡◌, ℕ, ◌≤◌, ◌^◌, Bool, List, [], ◌∷◌, Option, None, Some, length}
use Rattle.std.specs.Prelude.{if◌then◌else◌, suc}
use Rattle.std.specs.Global.{Vec}
use Rattle.std.specs.Ordering.{nat_cmp}
use Rattle.std.specs.Cmp.Lexicographic.{slice_cmp}
use Rattle.std.specs.BTreeMap.{BTreeMap, get_by}
use Rattle.std.specs.Str.{bytes_eq, str_to_ascii_lowercase}
use Rattle.rule_types.specs.Finding.{Found, Nothing, At, Several, only, places_from}
use Rattle.object_index.specs.declared.place.Place.{Place}
use Rattle.object_index.specs.declared.place.Place.TheVariants as place

-- a map of texts to the places of the names that they stand for
abbrev pub PlaceMap : Type 0
PlaceMap = BTreeMap (Vec ℕ) Place

-- what places find
abbrev pub place_found : Place → Found
place_found (place.One number) = At number
place_found place.Several = Several

-- what an entry finds, and nothing where there is none
abbrev pub entry_found : Option Place → Found
entry_found None = Nothing
entry_found (Some found) = place_found found

-- what a text finds in a map
abbrev pub found_in : PlaceMap → List ℕ → Found
found_in map text = entry_found (get_by (λ key. slice_cmp nat_cmp text key.items) map)

-- the first name that passes a test, counted from a place
abbrev pub first_from : ℕ → (List ℕ → Bool) → List (List ℕ) → Found
first_from start passes [] = Nothing
first_from start passes (name ∷ names) =
    if passes name then At start else first_from (suc start) passes names

-- what is found once the name at one more place passes too
abbrev pub with_one : ℕ → Found → Found
with_one number Nothing = At number
with_one number (At place) = Several
with_one number Several = Several

-- names are there once each and their numbers fit, one map gives what each text finds among them,
-- and the other what it finds among them in lower case
pub record IsIndexed (names : List (List ℕ)) (exact caseless : PlaceMap) : Type 0 where
  pub few : length names ≤ 2 ^ 32
  pub once : (name : List ℕ)
      → only (places_from 0 (bytes_eq name) names) ≡ first_from 0 (bytes_eq name) names
  pub same_bytes : (text : List ℕ)
      → found_in exact text ≡ only (places_from 0 (bytes_eq text) names)
  pub any_case : (text : List ℕ) → found_in caseless text
      ≡ only (places_from 0 (λ name. bytes_eq text (str_to_ascii_lowercase name)) names)
