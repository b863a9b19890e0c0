-- A text that is cut at its commas, comma by comma.
use Rattle.std.proofs.Common.{◌≡◌, ℕ, suc, ◌+◌, ◌-◌, ◌<◌, ◌≤◌, Bool, true, false, not, cond, ◌==◌, ltb, List, [], ◌∷◌, length, take, drop, Some, None, refl, ap, sym, ◌∙◌, arith}
use Rattle.std.specs.List.{position, position_or_len, count_by, onto_first}
use Rattle.std.proofs.lemmas.List.{take_rest, take_all}
use Rattle.std.proofs.lemmas.List.Splits.{slice_split_first, length-slice_split}
use Rattle.std.proofs.lemmas.Bool.Decides.{nat_tests}
use Rattle.trace_csv.specs.Records.{comma, cut_at_commas}

abbrev is_comma : ℕ → Bool
is_comma byte = byte == comma

pub cut_found : (text : List ℕ) (at : ℕ) → Some at ≡ position is_comma text
    → cut_at_commas text ≡ take at text ∷ cut_at_commas (take (length text - (at + 1)) (drop (at + 1) text))
cut_found text at is = by_test (ltb (position_or_len is_comma text) (length text)) refl is where
  by_test : (inside : Bool) → ltb (position_or_len is_comma text) (length text) ≡ inside
      → Some at ≡ cond inside (Some (position_or_len is_comma text)) None
      → cut_at_commas text ≡ take at text ∷ cut_at_commas (take (length text - (at + 1)) (drop (at + 1) text))
  by_test true inside is =
      let here : position_or_len is_comma text ≡ at = cc in
      let within : position_or_len is_comma text < length text = grind (arith, nat_tests) in
      slice_split_first is_comma text 0 within
      ∙ ap (λ k. take k text ∷ cut_at_commas (drop (k + 1) text)) here
      ∙ ap (λ rest. take at text ∷ cut_at_commas rest) (sym (take_rest text (at + 1)))
  by_test false inside is = cc

-- a text without a comma
whole : (text : List ℕ) → length text ≤ position_or_len is_comma text → cut_at_commas text ≡ text ∷ []
whole [] none = refl
whole (byte ∷ bytes) none = by_test (byte == comma) none (whole bytes) where
  by_test : (test : Bool) → suc (length bytes) ≤ cond (not test) (1 + position_or_len is_comma bytes) 0
      → (length bytes ≤ position_or_len is_comma bytes → cut_at_commas bytes ≡ bytes ∷ [])
      → cond test ([] ∷ cut_at_commas bytes) (onto_first byte (cut_at_commas bytes)) ≡ (byte ∷ bytes) ∷ []
  by_test true none again = absurd (omega arith)
  by_test false none again = ap (onto_first byte) (again (omega arith))

pub cut_absent : (text : List ℕ) → None ≡ position is_comma text → cut_at_commas text ≡ text ∷ []
cut_absent text is = by_test (ltb (position_or_len is_comma text) (length text)) refl is where
  by_test : (inside : Bool) → ltb (position_or_len is_comma text) (length text) ≡ inside
      → None ≡ cond inside (Some (position_or_len is_comma text)) None → cut_at_commas text ≡ text ∷ []
  by_test true inside is = cc
  by_test false inside is =
      let past : length text ≤ position_or_len is_comma text = grind (arith, nat_tests) in whole text past

pub counted : (text : List ℕ) (count index : ℕ) → length text ≤ index → count ≡ count_by is_comma (take index text)
    → length (cut_at_commas text) ≡ 1 + count
counted text count index end is =
    let all : count ≡ count_by is_comma text = is ∙ ap (count_by is_comma) (take_all index text end) in
    let cut : length (cut_at_commas text) ≡ count_by is_comma text + 1 = length-slice_split is_comma text in
    omega arith
