-- What names find once one more is at the end.
use Rattle.std.proofs.Common.{◌≡◌, ℕ, ◌+◌, Bool, true, false, List, [], ◌∷◌, ◌++◌, ◌||◌, refl, ap, sym, ◌∙◌, suc, length, arith, true≢false}
use Rattle.std.specs.Prelude.{if◌then◌else◌}
use Rattle.std.specs.List.{list_any}
use Rattle.rule_types.specs.Finding.{Nothing, At, only, places_from}
use Rattle.object_index.specs.internal.Indexed.{first_from, with_one}

pub only-push : (xs : List ℕ) (y : ℕ) → only (xs ++ y ∷ []) ≡ with_one y (only xs)
only-push [] y = refl
only-push (x ∷ []) y = refl
only-push (x ∷ z ∷ zs) y = refl

onto : (b : Bool) (x : ℕ) (l t : List ℕ) → (if b then x ∷ (l ++ t) else l ++ t) ≡ (if b then x ∷ l else l) ++ t
onto true x l t = refl
onto false x l t = refl

module _ (passes : List ℕ → Bool) (name : List ℕ) where
  -- a name that does not pass
  pub places-fail : passes name ≡ false → (start : ℕ) (names : List (List ℕ)) → places_from start passes (names ++ name ∷ []) ≡ places_from start passes names
  places-fail e start [] = ap (λ b. if b then start ∷ [] else []) e
  places-fail e start (n ∷ ns) = ap (λ l. if passes n then start ∷ l else l) (places-fail e (suc start) ns)

  pub first-fail : passes name ≡ false → (start : ℕ) (names : List (List ℕ)) → first_from start passes (names ++ name ∷ []) ≡ first_from start passes names
  first-fail e start [] = ap (λ b. if b then At start else Nothing) e
  first-fail e start (n ∷ ns) = ap (λ f. if passes n then At start else f) (first-fail e (suc start) ns)

  -- a name that passes
  pub places-pass : passes name ≡ true → (start : ℕ) (names : List (List ℕ)) → places_from start passes (names ++ name ∷ []) ≡ places_from start passes names ++ (start + length names) ∷ []
  places-pass e start [] = let more : start ≡ start + 0 = omega arith in ap (λ b. if b then start ∷ [] else []) e ∙ ap (λ k. k ∷ []) more
  places-pass e start (n ∷ ns) =
      let more : suc start + length ns ≡ start + suc (length ns) = omega arith in
      ap (λ l. if passes n then start ∷ l else l) (places-pass e (suc start) ns ∙ ap (λ k. places_from (suc start) passes ns ++ k ∷ []) more)
      ∙ onto (passes n) start (places_from (suc start) passes ns) ((start + suc (length ns)) ∷ [])

  pub only-pass : passes name ≡ true → (names : List (List ℕ)) → only (places_from 0 passes (names ++ name ∷ [])) ≡ with_one (length names) (only (places_from 0 passes names))
  only-pass e names =
      let less : 0 + length names ≡ length names = omega arith in
      ap only (places-pass e 0 names) ∙ only-push (places_from 0 passes names) (0 + length names) ∙ ap (λ k. with_one k (only (places_from 0 passes names))) less

-- where none passes
none-split : (b r : Bool) → (b || r) ≡ false → b ≡ false
none-split true r h = absurd (true≢false h)
none-split false r h = refl

none-rest : (b r : Bool) → (b || r) ≡ false → r ≡ false
none-rest true r h = absurd (true≢false h)
none-rest false r h = h

module _ (passes : List ℕ → Bool) where
  pub places-none : (start : ℕ) (names : List (List ℕ)) → list_any passes names ≡ false → places_from start passes names ≡ []
  places-none start [] h = refl
  places-none start (n ∷ ns) h =
      ap (λ b. if b then start ∷ places_from (suc start) passes ns else places_from (suc start) passes ns) (none-split (passes n) (list_any passes ns) h)
      ∙ places-none (suc start) ns (none-rest (passes n) (list_any passes ns) h)

  pub first-new : (name : List ℕ) → passes name ≡ true → (start : ℕ) (names : List (List ℕ)) → list_any passes names ≡ false → first_from start passes (names ++ name ∷ []) ≡ At (start + length names)
  first-new name e start [] h = let more : start ≡ start + 0 = omega arith in ap (λ b. if b then At start else Nothing) e ∙ ap At more
  first-new name e start (n ∷ ns) h =
      let more : suc start + length ns ≡ start + suc (length ns) = omega arith in
      ap (λ b. if b then At start else first_from (suc start) passes (ns ++ name ∷ [])) (none-split (passes n) (list_any passes ns) h)
      ∙ first-new name e (suc start) ns (none-rest (passes n) (list_any passes ns) h)
      ∙ ap At more

  -- a name that is new
  pub only-new : (name : List ℕ) → passes name ≡ true → (names : List (List ℕ)) → list_any passes names ≡ false → only (places_from 0 passes (names ++ name ∷ [])) ≡ first_from 0 passes (names ++ name ∷ [])
  only-new name e names h =
      let less : length names ≡ 0 + length names = omega arith in
      only-pass passes name e names
      ∙ ap (λ l. with_one (length names) (only l)) (places-none 0 names h)
      ∙ ap At less
      ∙ sym (first-new name e 0 names h)
