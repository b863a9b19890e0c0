-- The first line of bytes, and the lines behind it.
use Rattle.std.proofs.Common.{◌≡◌, ℕ, suc, ◌+◌, ◌<◌, ◌≤◌, ◌==◌, Bool, true, false, not, cond, List, [], ◌∷◌, length, take, drop, map, Some, None, Option, refl, sym, ◌∙◌, ap, subst, arith, ltb}
use Rattle.std.specs.List.{position, position_or_len}
use Rattle.std.proofs.lemmas.Bool.{ltb-true, ltb-false}
use Rattle.std.proofs.lemmas.List.{take_all, at_drop_all}
use Rattle.byte_edge.specs.Lines.{raw_lines, onto_first, lines, line_text, capped}

-- where the first LF is, or the length
abbrev first_feed : List ℕ → ℕ
first_feed xs = position_or_len (λ byte. byte == 10) xs

-- the first line has its LF
cut_at : (xs : List ℕ) → first_feed xs < length xs
    → raw_lines xs ≡ take (first_feed xs + 1) xs ∷ raw_lines (drop (first_feed xs + 1) xs)
cut_at [] short = absurd (omega arith)
cut_at (x ∷ xs) short = at (x == 10) refl short (cut_at xs)
  where
    at : (b : Bool) → (x == 10) ≡ b → cond (not b) (1 + first_feed xs) 0 < length (x ∷ xs)
        → (first_feed xs < length xs
        → raw_lines xs ≡ take (first_feed xs + 1) xs ∷ raw_lines (drop (first_feed xs + 1) xs))
        → cond b ((x ∷ []) ∷ raw_lines xs) (onto_first x (raw_lines xs))
        ≡ take (cond (not b) (1 + first_feed xs) 0 + 1) (x ∷ xs)
        ∷ raw_lines (drop (cond (not b) (1 + first_feed xs) 0 + 1) (x ∷ xs))
    at true is short later = refl
    at false is short later =
        let step : 1 + first_feed xs ≡ suc (first_feed xs) = omega arith in
        let steps : suc (first_feed xs) + 1 ≡ suc (first_feed xs + 1) = omega arith in
        rw (step, steps) (ap (onto_first x) (later (omega arith)))

-- the last line has none
last_line : (xs : List ℕ) → length xs ≤ first_feed xs → 0 < length xs → raw_lines xs ≡ xs ∷ []
last_line [] none some = absurd (omega arith)
last_line (x ∷ []) none some = at (x == 10)
  where
    at : (b : Bool) → cond b ((x ∷ []) ∷ []) (onto_first x []) ≡ (x ∷ []) ∷ []
    at true = refl
    at false = refl
last_line (x ∷ y ∷ ys) none some = at (x == 10) none (last_line (y ∷ ys))
  where
    at : (b : Bool) → length (x ∷ y ∷ ys) ≤ cond (not b) (1 + first_feed (y ∷ ys)) 0
        → (length (y ∷ ys) ≤ first_feed (y ∷ ys) → 0 < length (y ∷ ys)
        → raw_lines (y ∷ ys) ≡ (y ∷ ys) ∷ [])
        → cond b ((x ∷ []) ∷ raw_lines (y ∷ ys)) (onto_first x (raw_lines (y ∷ ys)))
        ≡ (x ∷ y ∷ ys) ∷ []
    at true none later = absurd (omega arith)
    at false none later = ap (onto_first x) (later (omega arith) (omega arith))

-- what the search for an LF says
pub record IsCut (count : ℕ) (xs : List ℕ) : Type 0 where
  pub lines : raw_lines xs ≡ take count xs ∷ raw_lines (drop count xs)
  pub some : 0 < count
  pub within : count ≤ length xs

found_by : (xs : List ℕ) (at : ℕ) (b : Bool) → ltb (first_feed xs) (length xs) ≡ b
    → Some at ≡ cond b (Some (first_feed xs)) None → IsCut (at + 1) xs
found_by xs at true in_range found =
    let same : first_feed xs ≡ at = cc in
    let short = ltb-true (first_feed xs) (length xs) in_range in
    subst (λ n. IsCut (n + 1) xs) same (record {
      lines = cut_at xs short;
      some = omega arith;
      within = omega arith;
    })
found_by xs at false in_range found = cc

pub cut_found : (xs : List ℕ) (at : ℕ) → Some at ≡ position (λ byte. byte == 10) xs
    → IsCut (at + 1) xs
cut_found xs at found = found_by xs at (ltb (first_feed xs) (length xs)) refl found

absent_by : (xs : List ℕ) (b : Bool) → ltb (first_feed xs) (length xs) ≡ b
    → None ≡ cond b (Some (first_feed xs)) None → 0 < length xs → IsCut (length xs) xs
absent_by xs true in_range absent some = cc
absent_by xs false in_range absent some =
    let all : take (length xs) xs ≡ xs = take_all (length xs) xs (omega arith) in
    record {
      lines = last_line xs (ltb-false (first_feed xs) (length xs) in_range) some
          ∙ sym (ap (λ first. first ∷ []) all)
          ∙ sym (at_drop_all (λ rest. take (length xs) xs ∷ raw_lines rest) xs (length xs) (omega arith));
      some = some;
      within = omega arith;
    }

pub cut_absent : (xs : List ℕ) → None ≡ position (λ byte. byte == 10) xs → 0 < length xs
    → IsCut (length xs) xs
cut_absent xs absent some = absent_by xs (ltb (first_feed xs) (length xs)) refl absent some

-- the same of lines that are too long or not
pub lines_cut : (limit count : ℕ) (xs raw rest : List ℕ) (line : Option (List ℕ))
    → raw_lines xs ≡ take count xs ∷ raw_lines (drop count xs)
    → raw ≡ take count xs → rest ≡ drop count xs → line ≡ capped limit (line_text raw)
    → map (capped limit) (lines xs) ≡ line ∷ map (capped limit) (lines rest)
lines_cut limit count xs raw rest line is first later text =
    ap (λ all. map (capped limit) (map line_text all)) is
    ∙ (λ i. capped limit (line_text (sym first i)) ∷ map (capped limit) (map line_text (raw_lines (sym later i))))
    ∙ ap (λ one. one ∷ map (capped limit) (lines rest)) (sym text)
