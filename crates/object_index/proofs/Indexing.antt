-- What the two maps of a table of names find after one more name.
use Rattle.std.proofs.Common.{◌≡◌, ℕ, ◌+◌, ◌<◌, ◌≤◌, ◌^◌, Bool, true, false, not, cond, nat_lt}
use Rattle.std.proofs.Common.{List, [], ◌∷◌, ◌++◌, ◌||◌, Option, None, Some, is_some, length, suc}
use Rattle.std.proofs.Common.{refl, ap, sym, subst, ◌∙◌, arith, true≢false, position}
use Rattle.std.proofs.lemmas.Slice.Eq.{bytes_eq-Decides}
use Rattle.std.proofs.lemmas.Bool.Decides.{nat_tests}
use Rattle.std.proofs.lemmas.Map.Text.{is_eq-slice_cmp}
use Rattle.std.specs.Global.{Vec}
use Rattle.std.specs.List.{list_any, position_or_len}
use Rattle.std.specs.Map.{KeepsOthers, lookup}
use Rattle.std.specs.declared.cmp.Ordering.{Ordering}
use Rattle.std.specs.Ordering.{nat_cmp, is_eq}
use Rattle.std.specs.Cmp.Lexicographic.{slice_cmp}
use Rattle.std.specs.BTreeMap.{UpdatesBy}
use Rattle.std.specs.Str.{bytes_eq, str_to_ascii_lowercase}
use Rattle.rule_types.specs.Finding.{Found, Nothing, At, Several, only, places_from, else_found}
use Rattle.rule_types.specs.Finding.{finds, same_ignoring_case}
use Rattle.object_index.specs.declared.found.Found.{Found as Answer}
use Rattle.object_index.specs.declared.found.Found.TheVariants as answer
use Rattle.object_index.specs.declared.place.Place.{Place}
use Rattle.object_index.specs.Names.{found_by}
use Rattle.object_index.specs.internal.Indexed.{PlaceMap, entry_found, found_in, first_from}
use Rattle.object_index.specs.internal.Indexed.{with_one, IsIndexed}
use Rattle.object_index.proofs.Finds.{places-fail, first-fail, only-pass, only-new, places-none}

abbrev pub by_bytes : Vec ℕ → Vec ℕ → Ordering
by_bytes a b = slice_cmp nat_cmp a.items b.items

-- two texts compare as equal where they have the same bytes
same : (a b : List ℕ) → is_eq (slice_cmp nat_cmp a b) ≡ true → a ≡ b
same a b e = (bytes_eq-Decides a b).0 (sym (is_eq-slice_cmp a b) ∙ e)

-- what a map finds after one text is put or taken out
pub updated : (text : List ℕ) (old new : PlaceMap) (w : Option Place)
    → UpdatesBy by_bytes (λ key. slice_cmp nat_cmp text key.items) old new w
    → (other : List ℕ) (b : Bool) → bytes_eq other text ≡ b
    → found_in new other ≡ cond b (entry_found w) (found_in old other)
unfolding KeepsOthers
updated text old new w u other true e =
    let it : other ≡ text = (bytes_eq-Decides other text).0 e in
    ap (found_in new) it ∙ ap entry_found u.1
updated text old new w u other false e =
    ap entry_found (u.3 (λ key. is_eq (slice_cmp nat_cmp other key.items))
    (λ x y t. ap (λ o. is_eq (slice_cmp nat_cmp o y.items)) (same other x.items t))
    (λ k t. is_eq-slice_cmp other k.items ∙ ap (bytes_eq other) (sym (same text k.items t)) ∙ e))

-- what is found of texts that stand for names by f, after one more name
module _ (f : List ℕ → List ℕ) (names : List (List ℕ)) (name : List ℕ) (old new : List ℕ → Found)
    (found : (text : List ℕ) → old text ≡ only (places_from 0 (λ n. bytes_eq text (f n)) names))
    (text : List ℕ) (number : ℕ) (low : text ≡ f name) (count : number ≡ length names)
    (added : (other : List ℕ)
    → new other ≡ cond (bytes_eq other text) (with_one number (old text)) (old other)) where
  found-more : (other : List ℕ) (b : Bool) → bytes_eq other text ≡ b
      → new other ≡ only (places_from 0 (λ n. bytes_eq other (f n)) (names ++ name ∷ []))
  found-more other true e =
      let it : other ≡ text = (bytes_eq-Decides other text).0 e in
      let mine : bytes_eq other (f name) ≡ true = ap (bytes_eq other) (sym low) ∙ e in
      added other
      ∙ ap (λ t. cond t (with_one number (old text)) (old other)) e
      ∙ ap (λ t. with_one number (old t)) (sym it)
      ∙ ap (λ k. with_one k (old other)) count
      ∙ ap (with_one (length names)) (found other)
      ∙ sym (only-pass (λ n. bytes_eq other (f n)) name mine names)
  found-more other false e =
      let apart : bytes_eq other (f name) ≡ false = ap (bytes_eq other) (sym low) ∙ e in
      added other
      ∙ ap (λ t. cond t (with_one number (old text)) (old other)) e
      ∙ found other
      ∙ sym (ap only (places-fail (λ n. bytes_eq other (f n)) name apart 0 names))

  pub found-after : (other : List ℕ)
      → new other ≡ only (places_from 0 (λ n. bytes_eq other (f n)) (names ++ name ∷ []))
  found-after other = found-more other (bytes_eq other text) refl

module _ (names : List (List ℕ)) (name : List ℕ) (absent : list_any (bytes_eq name) names ≡ false)
    (once : (key : List ℕ)
    → only (places_from 0 (bytes_eq key) names) ≡ first_from 0 (bytes_eq key) names) where
  once-more : (key : List ℕ) (b : Bool) → bytes_eq key name ≡ b
      → only (places_from 0 (bytes_eq key) (names ++ name ∷ []))
      ≡ first_from 0 (bytes_eq key) (names ++ name ∷ [])
  once-more key true e =
      let it : key ≡ name = (bytes_eq-Decides key name).0 e in
      only-new (bytes_eq key) name e names
      (subst (λ l. list_any (bytes_eq l) names ≡ false) (sym it) absent)
  once-more key false e =
      ap only (places-fail (bytes_eq key) name e 0 names) ∙ once key
      ∙ sym (first-fail (bytes_eq key) name e 0 names)

length-push : (names : List (List ℕ)) (name : List ℕ)
    → length (names ++ name ∷ []) ≡ suc (length names)
length-push [] name = refl
length-push (n ∷ ns) name = ap suc (length-push ns name)

-- a table of names is indexed after one more
pub indexed-more : (names more : List (List ℕ)) (name text low : List ℕ) (number : ℕ)
    (exact exact' caseless caseless' : PlaceMap) → IsIndexed names exact caseless
    → length names < 2 ^ 32 → list_any (bytes_eq name) names ≡ false
    → text ≡ name → low ≡ str_to_ascii_lowercase name → number ≡ length names
    → more ≡ names ++ name ∷ []
    → ((other : List ℕ) → found_in exact' other
    ≡ cond (bytes_eq other text) (with_one number (found_in exact text)) (found_in exact other))
    → ((other : List ℕ) → found_in caseless' other
    ≡ cond (bytes_eq other low) (with_one number (found_in caseless low)) (found_in caseless other))
    → IsIndexed more exact' caseless'
indexed-more names more name text low number exact exact' caseless caseless' is few absent copied
    lower count grown here there =
    subst (λ l. IsIndexed l exact' caseless') (sym grown) (record {
      few = let longer = length-push names name in omega arith;
      once = λ key. once-more names name absent is.once key (bytes_eq key name) refl;
      same_bytes = found-after (λ n. n) names name (found_in exact) (found_in exact') is.same_bytes
          text number copied count here;
      any_case = found-after str_to_ascii_lowercase names name (found_in caseless)
          (found_in caseless') is.any_case low number lower count there;
    })

none-found : (names : List (List ℕ)) (name : List ℕ) (exact caseless : PlaceMap)
    → IsIndexed names exact caseless → list_any (bytes_eq name) names ≡ false
    → found_in exact name ≡ Nothing
none-found names name exact caseless is absent =
    is.same_bytes name ∙ ap only (places-none (bytes_eq name) 0 names absent)

undone : (name text : List ℕ) (number : ℕ) (exact exact' exact'' : PlaceMap) → text ≡ name
    → found_in exact name ≡ Nothing
    → ((other : List ℕ) → found_in exact' other
    ≡ cond (bytes_eq other text) (with_one number (found_in exact text)) (found_in exact other))
    → ((other : List ℕ) → found_in exact'' other
    ≡ cond (bytes_eq other name) Nothing (found_in exact' other))
    → (other : List ℕ) (b : Bool) → bytes_eq other name ≡ b
    → found_in exact'' other ≡ found_in exact other
undone name text number exact exact' exact'' copied none here taken other true e =
    let it : other ≡ name = (bytes_eq-Decides other name).0 e in
    taken other ∙ ap (λ t. cond t Nothing (found_in exact' other)) e ∙ sym none
    ∙ ap (found_in exact) (sym it)
undone name text number exact exact' exact'' copied none here taken other false e =
    taken other ∙ ap (λ t. cond t Nothing (found_in exact' other)) e ∙ here other
    ∙ ap (λ t. cond t (with_one number (found_in exact text)) (found_in exact other))
    (ap (bytes_eq other) copied ∙ e)

-- names stay indexed where the maps find the same
pub indexed-same : (names names' : List (List ℕ)) (exact exact' caseless caseless' : PlaceMap)
    → IsIndexed names exact caseless → names' ≡ names
    → ((other : List ℕ) → found_in exact' other ≡ found_in exact other)
    → ((other : List ℕ) → found_in caseless' other ≡ found_in caseless other)
    → IsIndexed names' exact' caseless'
indexed-same names names' exact exact' caseless caseless' is same_names here there =
    subst (λ l. IsIndexed l exact' caseless') (sym same_names) (record {
      few = is.few;
      once = is.once;
      same_bytes = λ text. here text ∙ is.same_bytes text;
      any_case = λ text. there text ∙ is.any_case text;
    })

-- a map with the same entries finds the same
pub found-unchanged : (old new : PlaceMap) → new.entries ≡ old.entries → (text : List ℕ)
    → found_in new text ≡ found_in old text
found-unchanged old new e text =
    ap (λ es. entry_found (lookup (λ key. is_eq (slice_cmp nat_cmp text key.items)) es)) e

-- a table of names is indexed as before where the second map took nothing
pub indexed-undone : (names names' : List (List ℕ)) (name text : List ℕ) (number : ℕ)
    (exact exact' exact'' caseless caseless' : PlaceMap) → IsIndexed names exact caseless
    → list_any (bytes_eq name) names ≡ false → text ≡ name → names' ≡ names
    → ((other : List ℕ) → found_in exact' other
    ≡ cond (bytes_eq other text) (with_one number (found_in exact text)) (found_in exact other))
    → ((other : List ℕ) → found_in exact'' other
    ≡ cond (bytes_eq other name) Nothing (found_in exact' other))
    → caseless'.entries ≡ caseless.entries
    → IsIndexed names' exact'' caseless'
indexed-undone names names' name text number exact exact' exact'' caseless caseless' is absent
    copied same_names here taken kept =
    indexed-same names names' exact exact'' caseless caseless' is same_names
    (λ other. undone name text number exact exact' exact'' copied
    (none-found names name exact caseless is absent) here taken other (bytes_eq other name) refl)
    (found-unchanged caseless caseless' kept)

-- the place of a name
less-suc : (a b : ℕ) → nat_lt (1 + a) (suc b) ≡ nat_lt a b
less-suc a b = grind (arith, nat_tests)

zero-less : (b : ℕ) → nat_lt 0 (suc b) ≡ true
zero-less b = grind (arith, nat_tests)

shift : (b : Bool) (start at len : ℕ) (found : Found)
    → cond (nat_lt at len) (At (suc start + at)) Nothing ≡ found
    → cond (nat_lt (cond (not b) (1 + at) 0) (suc len)) (At (start + cond (not b) (1 + at) 0)) Nothing
    ≡ cond b (At start) found
shift true start at len found h =
    let less : start + 0 ≡ start = omega arith in
    ap (λ b. cond b (At (start + 0)) Nothing) (zero-less len) ∙ ap At less
shift false start at len found h =
    let more : start + (1 + at) ≡ suc start + at = omega arith in
    ap (λ b. cond b (At (start + (1 + at))) Nothing) (less-suc at len)
    ∙ ap (λ k. cond (nat_lt at len) (At k) Nothing) more ∙ h

place-first : (p : List ℕ → Bool) (start : ℕ) (names : List (List ℕ))
    → cond (nat_lt (position_or_len p names) (length names)) (At (start + position_or_len p names))
    Nothing
    ≡ first_from start p names
place-first p start [] = refl
place-first p start (n ∷ ns) =
    shift (p n) start (position_or_len p ns) (length ns) (first_from (suc start) p ns)
    (place-first p (suc start) ns)

-- what an index says
abbrev pub index_found : Option ℕ → Found
index_found None = Nothing
index_found (Some index) = At index

index-cases : (b : Bool) (at : ℕ)
    → index_found (cond b (Some at) None) ≡ cond b (At (0 + at)) Nothing
index-cases true at = let more : at ≡ 0 + at = omega arith in ap At more
index-cases false at = refl

position-first : (p : List ℕ → Bool) (names : List (List ℕ))
    → index_found (position p names) ≡ first_from 0 p names
position-first p names =
    index-cases (nat_lt (position_or_len p names) (length names)) (position_or_len p names)
    ∙ place-first p 0 names

-- the number in an answer
abbrev pub number_in : Answer → Option ℕ
number_in answer.Nothing = None
number_in (answer.At number) = Some number
number_in answer.Several = None

number-case : (a : Answer) (o : Option ℕ) → found_by a ≡ index_found o → number_in a ≡ o
number-case answer.Nothing None e = refl
number-case answer.Nothing (Some k) e = cc
number-case (answer.At number) None e = cc
number-case (answer.At number) (Some k) e = cc
number-case answer.Several None e = cc
number-case answer.Several (Some k) e = cc

-- the map of the names gives the place of each
pub found-position : (names : List (List ℕ)) (name : List ℕ) (exact caseless : PlaceMap)
    (found : Answer) → IsIndexed names exact caseless → found_by found ≡ found_in exact name
    → number_in found ≡ position (bytes_eq name) names
found-position names name exact caseless found is e =
    number-case found (position (bytes_eq name) names)
    (e ∙ is.same_bytes name ∙ is.once name ∙ sym (position-first (bytes_eq name) names))

some-cases : (p r : Bool) (at len : ℕ) → is_some (cond (nat_lt at len) (Some at) None) ≡ r
    → is_some (cond (nat_lt (cond (not p) (1 + at) 0) (suc len)) (Some (cond (not p) (1 + at) 0)) None)
    ≡ (p || r)
some-cases true r at len h = ap (λ b. is_some {T = ℕ} (cond b (Some 0) None)) (zero-less len)
some-cases false r at len h =
    ap (λ b. is_some {T = ℕ} (cond b (Some (1 + at)) None)) (less-suc at len)
    ∙ some-alike (nat_lt at len) (1 + at) at ∙ h
  where
    some-alike : (b : Bool) (k m : ℕ) → is_some (cond b (Some k) None) ≡ is_some (cond b (Some m) None)
    some-alike true k m = refl
    some-alike false k m = refl

-- a name has a place where it is one of them
pub some-position : (p : List ℕ → Bool) (names : List (List ℕ))
    → is_some (position p names) ≡ list_any p names
some-position p [] = refl
some-position p (n ∷ ns) =
    some-cases (p n) (list_any p ns) (position_or_len p ns) (length ns) (some-position p ns)

-- what a name finds by its bytes
pub found-same : (names : List (List ℕ)) (name : List ℕ) (exact caseless : PlaceMap) (number : ℕ)
    → IsIndexed names exact caseless → position (bytes_eq name) names ≡ Some number
    → At number ≡ finds names name
found-same names name exact caseless number is at =
    sym (ap (λ f. else_found f (only (places_from 0 (same_ignoring_case name) names)))
    (is.once name ∙ sym (position-first (bytes_eq name) names) ∙ ap index_found at))

-- what a name finds in lower case, where no name has its bytes
pub found-caseless : (names : List (List ℕ)) (name low : List ℕ) (exact caseless : PlaceMap)
    (found : Answer) → IsIndexed names exact caseless → position (bytes_eq name) names ≡ None
    → low ≡ str_to_ascii_lowercase name → found_by found ≡ found_in caseless low
    → found_by found ≡ finds names name
found-caseless names name low exact caseless found is at folded e =
    e ∙ ap (found_in caseless) folded ∙ is.any_case (str_to_ascii_lowercase name)
    ∙ sym (ap (λ f. else_found f (only (places_from 0 (same_ignoring_case name) names)))
    (is.once name ∙ sym (position-first (bytes_eq name) names) ∙ ap index_found at))

pub none-there : (p : List ℕ → Bool) (names : List (List ℕ)) → position p names ≡ None
    → list_any p names ≡ false
none-there p names e = sym (some-position p names) ∙ ap is_some e
