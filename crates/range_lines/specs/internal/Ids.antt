-- What the two ordered maps of the ids of rules keep.
use Rattle.std.specs.Prelude.{◌≡◌, ℕ, List, Option, None, Some}
use Rattle.std.specs.Global.{Vec}
use Rattle.std.specs.Ordering.{nat_cmp}
use Rattle.std.specs.Cmp.Lexicographic.{slice_cmp}
use Rattle.std.specs.BTreeMap.{BTreeMap, get_by}
use Rattle.std.specs.Str.{bytes_eq, str_to_ascii_lowercase}
use Rattle.rule_types.specs.Finding.{Found, Nothing, At, Several, only, places_from}
use Rattle.range_lines.specs.declared.place.Place.{Place}
use Rattle.range_lines.specs.declared.place.Place.TheVariants as place

-- a map of texts to the places of the rules whose ids they are
abbrev pub PlaceMap : Type 0
PlaceMap = BTreeMap (Vec ℕ) Place

-- what a place finds
abbrev pub place_is : Place → Found
place_is (place.One number) = At number
place_is place.Several = Several

-- what an entry finds, and nothing where there is none
abbrev pub entry_found : Option Place → Found
entry_found None = Nothing
entry_found (Some found) = place_is found

-- what a text finds in a map
abbrev pub found_in : PlaceMap → List ℕ → Found
found_in map text = entry_found (get_by (λ key. slice_cmp nat_cmp text key.items) map)

-- what is found once the id at one more place passes too
abbrev pub with_one : ℕ → Found → Found
with_one number Nothing = At number
with_one number (At place) = Several
with_one number Several = Several

-- one map gives what each text finds among ids, and the other what it finds among them in lower
-- case
pub record IsIndexed (ids : List (List ℕ)) (exact caseless : PlaceMap) : Type 0 where
  pub same_bytes : (text : List ℕ)
      → found_in exact text ≡ only (places_from 0 (bytes_eq text) ids)
  pub any_case : (text : List ℕ) → found_in caseless text
      ≡ only (places_from 0 (λ id. bytes_eq text (str_to_ascii_lowercase id)) ids)
