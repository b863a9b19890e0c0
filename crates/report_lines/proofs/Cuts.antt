-- A text that is cut at a byte, part by part.
use Rattle.std.proofs.Common.{◌≡◌, ℕ, suc, ◌+◌, ◌-◌, ◌<◌, ◌≤◌, Bool, true, false, not, cond, ◌==◌, ltb, List, [], ◌∷◌, length, take, drop, Some, None, refl, ap, sym, ◌∙◌, arith}
use Rattle.std.specs.List.{position, position_or_len, onto_first, slice_split}
use Rattle.std.proofs.lemmas.List.{take_rest}
use Rattle.std.proofs.lemmas.List.Splits.{slice_split_first}
use Rattle.std.proofs.lemmas.Bool.Decides.{nat_tests}

module _ (separator : ℕ) where
  abbrev is_here : ℕ → Bool
  is_here byte = byte == separator

  abbrev parts : List ℕ → List (List ℕ)
  parts text = slice_split is_here text

  pub cut_found : (text : List ℕ) (at : ℕ) → Some at ≡ position is_here text
      → parts text ≡ take at text ∷ parts (take (length text - (at + 1)) (drop (at + 1) text))
  cut_found text at is = by_test (ltb (position_or_len is_here text) (length text)) refl is where
    by_test : (inside : Bool) → ltb (position_or_len is_here text) (length text) ≡ inside
        → Some at ≡ cond inside (Some (position_or_len is_here text)) None
        → parts text ≡ take at text ∷ parts (take (length text - (at + 1)) (drop (at + 1) text))
    by_test true inside is =
        let here : position_or_len is_here text ≡ at = cc in
        let within : position_or_len is_here text < length text = grind (arith, nat_tests) in
        slice_split_first is_here text 0 within
        ∙ ap (λ k. take k text ∷ parts (drop (k + 1) text)) here
        ∙ ap (λ rest. take at text ∷ parts rest) (sym (take_rest text (at + 1)))
    by_test false inside is = cc

  -- a text without a separator
  whole : (text : List ℕ) → length text ≤ position_or_len is_here text → parts text ≡ text ∷ []
  whole [] none = refl
  whole (byte ∷ bytes) none = by_test (byte == separator) none (whole bytes) where
    by_test : (test : Bool) → suc (length bytes) ≤ cond (not test) (1 + position_or_len is_here bytes) 0
        → (length bytes ≤ position_or_len is_here bytes → parts bytes ≡ bytes ∷ [])
        → cond test ([] ∷ parts bytes) (onto_first byte (parts bytes)) ≡ (byte ∷ bytes) ∷ []
    by_test true none again = absurd (omega arith)
    by_test false none again = ap (onto_first byte) (again (omega arith))

  pub cut_absent : (text : List ℕ) → None ≡ position is_here text → parts text ≡ text ∷ []
  cut_absent text is = by_test (ltb (position_or_len is_here text) (length text)) refl is where
    by_test : (inside : Bool) → ltb (position_or_len is_here text) (length text) ≡ inside
        → None ≡ cond inside (Some (position_or_len is_here text)) None → parts text ≡ text ∷ []
    by_test true inside is = cc
    by_test false inside is =
        let past : length text ≤ position_or_len is_here text = grind (arith, nat_tests) in whole text past
