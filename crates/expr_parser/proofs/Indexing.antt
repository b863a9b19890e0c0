-- What the map of an index of names finds after one more name.
use Rattle.std.proofs.Common.{◌≡◌, ℕ, ◌+◌, ◌<◌, ◌^◌, Bool, true, false, not, cond, nat_lt}
use Rattle.std.proofs.Common.{List, [], ◌∷◌, ◌++◌, Option, None, Some, length, suc}
use Rattle.std.proofs.Common.{refl, ap, sym, subst, ◌∙◌, arith, position}
use Rattle.std.proofs.lemmas.Slice.Eq.{bytes_eq-Decides}
use Rattle.std.proofs.lemmas.Bool.Decides.{nat_tests}
use Rattle.std.proofs.lemmas.Map.Text.{is_eq-slice_cmp}
use Rattle.std.specs.Global.{Vec}
use Rattle.std.specs.List.{position_or_len}
use Rattle.std.specs.Map.{KeepsOthers}
use Rattle.std.specs.Option.{option_map}
use Rattle.std.specs.declared.cmp.Ordering.{Ordering}
use Rattle.std.specs.Ordering.{nat_cmp, is_eq}
use Rattle.std.specs.Cmp.Lexicographic.{slice_cmp}
use Rattle.std.specs.BTreeMap.{UpdatesBy}
use Rattle.std.specs.Str.{bytes_eq, str_to_ascii_lowercase}
use Rattle.expr_parser.specs.declared.name_index.DeclaredName.{DeclaredName}
use Rattle.expr_parser.specs.Names.{place_of}
use Rattle.expr_parser.specs.internal.Indexed.{NumberMap, number_in, is_lower_case_of, IsIndexed}

abbrev pub by_bytes : Vec ℕ → Vec ℕ → Ordering
by_bytes a b = slice_cmp nat_cmp a.items b.items

-- two texts compare as equal where they have the same bytes
same : (a b : List ℕ) → is_eq (slice_cmp nat_cmp a b) ≡ true → a ≡ b
same a b e = (bytes_eq-Decides a b).0 (sym (is_eq-slice_cmp a b) ∙ e)

-- what a map finds after one text is put in
updated : (text : List ℕ) (old new : NumberMap) (w : Option ℕ)
    → UpdatesBy by_bytes (λ key. slice_cmp nat_cmp text key.items) old new w
    → (other : List ℕ) (b : Bool) → bytes_eq other text ≡ b
    → number_in new other ≡ cond b w (number_in old other)
unfolding KeepsOthers
updated text old new w u other true e =
    let it : other ≡ text = (bytes_eq-Decides other text).0 e in
    ap (number_in new) it ∙ u.1
updated text old new w u other false e =
    u.3 (λ key. is_eq (slice_cmp nat_cmp other key.items))
    (λ x y t. ap (λ o. is_eq (slice_cmp nat_cmp o y.items)) (same other x.items t))
    (λ k t. is_eq-slice_cmp other k.items ∙ ap (bytes_eq other) (sym (same text k.items t)) ∙ e)

-- ---- the place of the first name that passes a test
less-suc : (a b : ℕ) → nat_lt (1 + a) (suc b) ≡ nat_lt a b
less-suc a b = grind (arith, nat_tests)

zero-less : (b : ℕ) → nat_lt 0 (suc b) ≡ true
zero-less b = grind (arith, nat_tests)

later-place : (c : Bool) (at : ℕ) → cond c (Some (1 + at)) None ≡ option_map suc (cond c (Some at) None)
later-place true at = ap Some (omega arith)
later-place false at = refl

place-by : (b : Bool) (at len : ℕ)
    → cond (nat_lt (cond (not b) (1 + at) 0) (suc len)) (Some (cond (not b) (1 + at) 0)) None
    ≡ cond b (Some 0) (option_map suc (cond (nat_lt at len) (Some at) None))
place-by true at len = ap (λ c. cond c (Some 0) None) (zero-less len)
place-by false at len =
    ap (λ c. cond c (Some (1 + at)) None) (less-suc at len) ∙ later-place (nat_lt at len) at

none-first : (b : Bool) (o : Option ℕ) → cond b (Some 0) (option_map suc o) ≡ None → b ≡ false
none-first true o e = cc
none-first false o e = refl

none-later : (b : Bool) (o : Option ℕ) → cond b (Some 0) (option_map suc o) ≡ None → o ≡ None
none-later true o e = cc
none-later false None e = refl
none-later false (Some at) e = cc

module _ (passes : DeclaredName → Bool) where
  position-first : (x : DeclaredName) (xs : List DeclaredName)
      → position passes (x ∷ xs) ≡ cond (passes x) (Some 0) (option_map suc (position passes xs))
  position-first x xs = place-by (passes x) (position_or_len passes xs) (length xs)

  -- one more that fails
  pub position-fail : (x : DeclaredName) → passes x ≡ false → (xs : List DeclaredName)
      → position passes (xs ++ x ∷ []) ≡ position passes xs
  position-fail x e [] =
      position-first x [] ∙ ap (λ b. cond b (Some 0) (option_map suc (position passes []))) e
  position-fail x e (y ∷ ys) =
      position-first y (ys ++ x ∷ [])
      ∙ ap (λ o. cond (passes y) (Some 0) (option_map suc o)) (position-fail x e ys)
      ∙ sym (position-first y ys)

  -- one more that passes, where none does before
  pub position-pass : (x : DeclaredName) → passes x ≡ true → (xs : List DeclaredName)
      → position passes xs ≡ None → position passes (xs ++ x ∷ []) ≡ Some (length xs)
  position-pass x e [] none =
      position-first x [] ∙ ap (λ b. cond b (Some 0) (option_map suc (position passes []))) e
  position-pass x e (y ∷ ys) none =
      let parts = sym (position-first y ys) ∙ none in
      position-first y (ys ++ x ∷ [])
      ∙ ap (λ b. cond b (Some 0) (option_map suc (position passes (ys ++ x ∷ []))))
      (none-first (passes y) (position passes ys) parts)
      ∙ ap (option_map suc)
      (position-pass x e ys (none-later (passes y) (position passes ys) parts))

-- ---- the index after one more name
length-push : (names : List DeclaredName) (name : DeclaredName)
    → length (names ++ name ∷ []) ≡ suc (length names)
length-push [] name = refl
length-push (n ∷ ns) name = ap suc (length-push ns name)

module _ (names : List DeclaredName) (one : DeclaredName) (low : List ℕ) (number : ℕ)
    (old new : NumberMap) (is : IsIndexed names old)
    (absent : position (is_lower_case_of low) names ≡ None)
    (folded : low ≡ str_to_ascii_lowercase one.name) (count : number ≡ length names)
    (put : UpdatesBy by_bytes (λ key. slice_cmp nat_cmp low key.items) old new (Some number)) where
  found-more : (other : List ℕ) (b : Bool) → bytes_eq other low ≡ b
      → number_in new other ≡ position (is_lower_case_of other) (names ++ one ∷ [])
  found-more other true e =
      let it : other ≡ low = (bytes_eq-Decides other low).0 e in
      let none : position (is_lower_case_of other) names ≡ None =
      subst (λ text. position (is_lower_case_of text) names ≡ None) (sym it) absent in
      updated low old new (Some number) put other true e ∙ ap Some count
      ∙ sym (position-pass (is_lower_case_of other) one (ap (bytes_eq other) (sym folded) ∙ e)
      names none)
  found-more other false e =
      updated low old new (Some number) put other false e ∙ is.found other
      ∙ sym (position-fail (is_lower_case_of other) one (ap (bytes_eq other) (sym folded) ∙ e) names)

-- names are indexed after one more
pub indexed-more : (names more : List DeclaredName) (one : DeclaredName) (name low : List ℕ)
    (number : ℕ) (old new : NumberMap) → IsIndexed names old → length names < 2 ^ 32
    → place_of names name ≡ None → low ≡ str_to_ascii_lowercase name → one.name ≡ name
    → number ≡ length names → more ≡ names ++ one ∷ []
    → UpdatesBy by_bytes (λ key. slice_cmp nat_cmp low key.items) old new (Some number)
    → IsIndexed more new
unfolding place_of
indexed-more names more one name low number old new is few absent folded named count grown put =
    let none : position (is_lower_case_of low) names ≡ None =
    ap (λ text. position (is_lower_case_of text) names) folded ∙ absent in
    let lower : low ≡ str_to_ascii_lowercase one.name =
    folded ∙ ap str_to_ascii_lowercase (sym named) in
    subst (λ l. IsIndexed l new) (sym grown) (record {
      few = let longer = length-push names one in omega arith;
      found = λ text. found-more names one low number old new is none lower count put text
          (bytes_eq text low) refl;
    })
