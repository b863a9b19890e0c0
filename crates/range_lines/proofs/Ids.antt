-- What the maps of ids find once one more rule is added.
use Rattle.std.proofs.Common.{◌≡◌, ℕ, ◌+◌, Bool, true, false, cond, List, [], ◌∷◌, ◌++◌, Option, None, Some, refl, ap, sym, ◌∙◌, suc, length, arith}
use Rattle.std.proofs.lemmas.Slice.Eq.{bytes_eq-Decides}
use Rattle.std.proofs.lemmas.Map.Text.{is_eq-slice_cmp}
use Rattle.std.specs.Prelude.{if◌then◌else◌}
use Rattle.std.specs.Global.{Vec}
use Rattle.std.specs.Map.{KeepsOthers, lookup}
use Rattle.std.specs.declared.cmp.Ordering.{Ordering}
use Rattle.std.specs.Ordering.{nat_cmp, is_eq}
use Rattle.std.specs.Cmp.Lexicographic.{slice_cmp}
use Rattle.std.specs.BTreeMap.{UpdatesBy}
use Rattle.std.specs.Str.{bytes_eq, str_to_ascii_lowercase}
use Rattle.rule_types.specs.Finding.{Found, only, places_from, else_found}
use Rattle.rule_types.specs.Finding.{finds, same_ignoring_case}
use Rattle.range_lines.specs.declared.place.Place.{Place}
use Rattle.range_lines.specs.declared.place.Place.TheVariants as place
use Rattle.range_lines.specs.internal.Ids.{PlaceMap, place_is, entry_found, found_in, with_one, IsIndexed}

only-push : (xs : List ℕ) (y : ℕ) → only (xs ++ y ∷ []) ≡ with_one y (only xs)
only-push [] y = refl
only-push (x ∷ []) y = refl
only-push (x ∷ z ∷ zs) y = refl

onto : (b : Bool) (x : ℕ) (l t : List ℕ) → (if b then x ∷ (l ++ t) else l ++ t) ≡ (if b then x ∷ l else l) ++ t
onto true x l t = refl
onto false x l t = refl

module _ (passes : List ℕ → Bool) (name : List ℕ) where
  -- an id that does not pass
  places-fail : passes name ≡ false → (start : ℕ) (names : List (List ℕ)) → places_from start passes (names ++ name ∷ []) ≡ places_from start passes names
  places-fail e start [] = ap (λ b. if b then start ∷ [] else []) e
  places-fail e start (n ∷ ns) = ap (λ l. if passes n then start ∷ l else l) (places-fail e (suc start) ns)

  -- an id that passes
  places-pass : passes name ≡ true → (start : ℕ) (names : List (List ℕ)) → places_from start passes (names ++ name ∷ []) ≡ places_from start passes names ++ (start + length names) ∷ []
  places-pass e start [] = let more : start ≡ start + 0 = omega arith in ap (λ b. if b then start ∷ [] else []) e ∙ ap (λ k. k ∷ []) more
  places-pass e start (n ∷ ns) =
      let more : suc start + length ns ≡ start + suc (length ns) = omega arith in
      ap (λ l. if passes n then start ∷ l else l) (places-pass e (suc start) ns ∙ ap (λ k. places_from (suc start) passes ns ++ k ∷ []) more)
      ∙ onto (passes n) start (places_from (suc start) passes ns) ((start + suc (length ns)) ∷ [])

  only-pass : passes name ≡ true → (names : List (List ℕ)) → only (places_from 0 passes (names ++ name ∷ [])) ≡ with_one (length names) (only (places_from 0 passes names))
  only-pass e names =
      let less : 0 + length names ≡ length names = omega arith in
      ap only (places-pass e 0 names) ∙ only-push (places_from 0 passes names) (0 + length names) ∙ ap (λ k. with_one k (only (places_from 0 passes names))) less

abbrev pub by_bytes : Vec ℕ → Vec ℕ → Ordering
by_bytes a b = slice_cmp nat_cmp a.items b.items

-- two texts compare as equal where they have the same bytes
same : (a b : List ℕ) → is_eq (slice_cmp nat_cmp a b) ≡ true → a ≡ b
same a b e = (bytes_eq-Decides a b).0 (sym (is_eq-slice_cmp a b) ∙ e)

-- what a map finds after one text is put in
pub updated : (text : List ℕ) (old new : PlaceMap) (w : Option Place)
    → UpdatesBy by_bytes (λ key. slice_cmp nat_cmp text key.items) old new w
    → (other : List ℕ) (b : Bool) → bytes_eq other text ≡ b
    → found_in new other ≡ cond b (entry_found w) (found_in old other)
unfolding KeepsOthers
updated text old new w u other true e =
    let it : other ≡ text = (bytes_eq-Decides other text).0 e in
    ap (found_in new) it ∙ ap entry_found u.1
updated text old new w u other false e =
    ap entry_found (u.3 (λ key. is_eq (slice_cmp nat_cmp other key.items))
    (λ x y t. ap (λ o. is_eq (slice_cmp nat_cmp o y.items)) (same other x.items t))
    (λ k t. is_eq-slice_cmp other k.items ∙ ap (bytes_eq other) (sym (same text k.items t)) ∙ e))

-- what is found of texts that stand for ids by f, after one more id
module _ (f : List ℕ → List ℕ) (names : List (List ℕ)) (name : List ℕ) (old new : List ℕ → Found)
    (found : (text : List ℕ) → old text ≡ only (places_from 0 (λ n. bytes_eq text (f n)) names))
    (text : List ℕ) (number : ℕ) (low : text ≡ f name) (count : number ≡ length names)
    (added : (other : List ℕ)
    → new other ≡ cond (bytes_eq other text) (with_one number (old text)) (old other)) where
  found-more : (other : List ℕ) (b : Bool) → bytes_eq other text ≡ b
      → new other ≡ only (places_from 0 (λ n. bytes_eq other (f n)) (names ++ name ∷ []))
  found-more other true e =
      let it : other ≡ text = (bytes_eq-Decides other text).0 e in
      let mine : bytes_eq other (f name) ≡ true = ap (bytes_eq other) (sym low) ∙ e in
      added other
      ∙ ap (λ t. cond t (with_one number (old text)) (old other)) e
      ∙ ap (λ t. with_one number (old t)) (sym it)
      ∙ ap (λ k. with_one k (old other)) count
      ∙ ap (with_one (length names)) (found other)
      ∙ sym (only-pass (λ n. bytes_eq other (f n)) name mine names)
  found-more other false e =
      let apart : bytes_eq other (f name) ≡ false = ap (bytes_eq other) (sym low) ∙ e in
      added other
      ∙ ap (λ t. cond t (with_one number (old text)) (old other)) e
      ∙ found other
      ∙ sym (ap only (places-fail (λ n. bytes_eq other (f n)) name apart 0 names))

  found-after : (other : List ℕ)
      → new other ≡ only (places_from 0 (λ n. bytes_eq other (f n)) (names ++ name ∷ []))
  found-after other = found-more other (bytes_eq other text) refl

-- no ids
pub indexed-none : (exact caseless : PlaceMap) → exact.entries ≡ [] → caseless.entries ≡ []
    → IsIndexed [] exact caseless
indexed-none exact caseless here there = record {
  same_bytes = λ text.
      ap (λ es. entry_found (lookup (λ key. is_eq (slice_cmp nat_cmp text key.items)) es)) here;
  any_case = λ text.
      ap (λ es. entry_found (lookup (λ key. is_eq (slice_cmp nat_cmp text key.items)) es)) there;
}

-- ids are indexed after one more
pub indexed-more : (names : List (List ℕ)) (name text low : List ℕ) (number : ℕ)
    (exact exact' caseless caseless' : PlaceMap) → IsIndexed names exact caseless
    → text ≡ name → low ≡ str_to_ascii_lowercase name → number ≡ length names
    → ((other : List ℕ) → found_in exact' other
    ≡ cond (bytes_eq other text) (with_one number (found_in exact text)) (found_in exact other))
    → ((other : List ℕ) → found_in caseless' other
    ≡ cond (bytes_eq other low) (with_one number (found_in caseless low)) (found_in caseless other))
    → IsIndexed (names ++ name ∷ []) exact' caseless'
indexed-more names name text low number exact exact' caseless caseless' is copied lower count here
    there =
    record {
      same_bytes = found-after (λ n. n) names name (found_in exact) (found_in exact') is.same_bytes
          text number copied count here;
      any_case = found-after str_to_ascii_lowercase names name (found_in caseless)
          (found_in caseless') is.any_case low number lower count there;
    }

-- a find of the same bytes goes before one in any case
first-found : (place : Place) (second : Found) → place_is place ≡ else_found (place_is place) second
first-found (place.One number) second = refl
first-found place.Several second = refl

pub found-exact : (ids : List (List ℕ)) (id : List ℕ) (exact caseless : PlaceMap) (place : Place)
    → IsIndexed ids exact caseless → entry_found (Some place) ≡ found_in exact id
    → place_is place ≡ finds ids id
found-exact ids id exact caseless place is e =
    first-found place (only (places_from 0 (same_ignoring_case id) ids))
    ∙ ap (λ f. else_found f (only (places_from 0 (same_ignoring_case id) ids)))
    (e ∙ is.same_bytes id)

pub found-caseless : (ids : List (List ℕ)) (id low : List ℕ) (exact caseless : PlaceMap)
    (place : Option Place) → IsIndexed ids exact caseless → entry_found None ≡ found_in exact id
    → low ≡ str_to_ascii_lowercase id → entry_found place ≡ found_in caseless low
    → entry_found place ≡ finds ids id
found-caseless ids id low exact caseless place is none folded e =
    e ∙ ap (found_in caseless) folded ∙ is.any_case (str_to_ascii_lowercase id)
    ∙ ap (λ f. else_found f (only (places_from 0 (same_ignoring_case id) ids)))
    (none ∙ is.same_bytes id)
