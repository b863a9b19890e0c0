-- The lines of bytes: where the first ends, and what a search for its end finds.
use Rattle.std.proofs.Common.{◌≡◌, ℕ, suc, ◌+◌, ◌<◌, ◌≤◌, ◌==◌, ◌||◌, Bool, true, false, not, cond, List, [], ◌∷◌, ◌++◌, length, take, Some, None, refl, sym, ◌∙◌, ap, subst, arith, ltb}
use Rattle.std.specs.List.{position, position_or_len}
use Rattle.std.proofs.lemmas.Bool.{eqb-true, ltb-true, ltb-false}
use Rattle.std.proofs.lemmas.List.{take_all}
use Rattle.byte_edge.specs.Lines.{raw_lines, onto_first, newlines, has_line_feed}
use Rattle.byte_edge.specs.internal.LineParts.{IsNextPart}

-- bytes without an LF: neither the first nor one of the rest is one
pub newlines-none : (x : ℕ) (xs : List ℕ) → newlines (x ∷ xs) ≡ 0 → ((x == 10) ≡ false) × (newlines xs ≡ 0)
newlines-none x xs none = at (x == 10) none
  where
    at : (b : Bool) → cond b 1 0 + newlines xs ≡ 0 → (b ≡ false) × (newlines xs ≡ 0)
    at true none = absurd (omega arith)
    at false none = (refl, omega arith)

pub newlines-append : (xs ys : List ℕ) → newlines (xs ++ ys) ≡ newlines xs + newlines ys
newlines-append [] ys = omega arith
newlines-append (x ∷ xs) ys = omega (arith, newlines-append xs ys)

-- bytes of which none is an LF
pub none_is_feed : (xs : List ℕ) → newlines xs ≡ 0 → has_line_feed xs ≡ false
none_is_feed [] none = refl
none_is_feed (x ∷ xs) none =
    let no = newlines-none x xs none in
    ap (λ b. b || has_line_feed xs) no.0 ∙ none_is_feed xs no.1

-- the first line, where its LF is there
pub raw_lines-whole : (text rest : List ℕ) → newlines text ≡ 0 → raw_lines (text ++ 10 ∷ rest) ≡ (text ++ 10 ∷ []) ∷ raw_lines rest
raw_lines-whole [] rest none = refl
raw_lines-whole (x ∷ xs) rest none =
    let no = newlines-none x xs none in
    ap (λ b. cond b ((x ∷ []) ∷ raw_lines (xs ++ 10 ∷ rest)) (onto_first x (raw_lines (xs ++ 10 ∷ rest)))) no.0
    ∙ ap (onto_first x) (raw_lines-whole xs rest no.1)

-- the last line, where no LF ends it
pub raw_lines-last : (text : List ℕ) → newlines text ≡ 0 → 0 < length text → raw_lines text ≡ text ∷ []
raw_lines-last [] none some = absurd (omega arith)
raw_lines-last (x ∷ []) none some = ap (λ b. cond b ((x ∷ []) ∷ []) (onto_first x [])) (newlines-none x [] none).0
raw_lines-last (x ∷ y ∷ ys) none some =
    let no = newlines-none x (y ∷ ys) none in
    ap (λ b. cond b ((x ∷ []) ∷ raw_lines (y ∷ ys)) (onto_first x (raw_lines (y ∷ ys)))) no.0
    ∙ ap (onto_first x) (raw_lines-last (y ∷ ys) no.1 (omega arith))

-- the first of the lines has at least `n` bytes
pub record BeginsWith (n : ℕ) (all : List (List ℕ)) : Type 0 where
  pub first : List ℕ
  pub others : List (List ℕ)
  pub is : all ≡ first ∷ others
  pub long : n ≤ length first

begins_onto : (x n : ℕ) (all : List (List ℕ)) → BeginsWith n all → BeginsWith (suc n) (onto_first x all)
begins_onto x n all b = record { first = x ∷ b.first; others = b.others; is = ap (onto_first x) b.is; long = let long = b.long in omega arith }

begins_any : (x : ℕ) (all : List (List ℕ)) → BeginsWith 1 (onto_first x all)
begins_any x [] = record { first = x ∷ []; others = []; is = refl; long = omega arith }
begins_any x (line ∷ rest) = record { first = x ∷ line; others = rest; is = refl; long = omega arith }

-- a line goes on past the bytes before its LF
pub raw_lines-longer : (text rest : List ℕ) → newlines text ≡ 0 → 0 < length text → BeginsWith (length text) (raw_lines (text ++ rest))
raw_lines-longer [] rest none some = absurd (omega arith)
raw_lines-longer (x ∷ []) rest none some =
    subst (BeginsWith 1) (sym (ap (λ b. cond b ((x ∷ []) ∷ raw_lines rest) (onto_first x (raw_lines rest))) (newlines-none x [] none).0)) (begins_any x (raw_lines rest))
raw_lines-longer (x ∷ y ∷ ys) rest none some =
    let no = newlines-none x (y ∷ ys) none in
    subst (BeginsWith (length (x ∷ y ∷ ys))) (sym (ap (λ b. cond b ((x ∷ []) ∷ raw_lines (y ∷ ys ++ rest)) (onto_first x (raw_lines (y ∷ ys ++ rest)))) no.0))
    (begins_onto x _ _ (raw_lines-longer (y ∷ ys) rest no.1 (omega arith)))

-- where the first LF is, or the length
abbrev pub first_newline : List ℕ → ℕ
first_newline xs = position_or_len (λ byte. byte == 10) xs

-- the bytes before the first LF have none
newlines-before : (xs : List ℕ) → newlines (take (first_newline xs) xs) ≡ 0
newlines-before [] = refl
newlines-before (x ∷ xs) = at (x == 10) refl (newlines-before xs)
  where
    at : (b : Bool) → (x == 10) ≡ b → newlines (take (first_newline xs) xs) ≡ 0 → newlines (take (cond (not b) (1 + first_newline xs) 0) (x ∷ xs)) ≡ 0
    at true is rest = refl
    at false is rest =
        let step : 1 + first_newline xs ≡ suc (first_newline xs) = omega arith in
        rw (step, is) (omega arith)

-- the first LF, and all before it
newline-split : (xs : List ℕ) → first_newline xs < length xs → take (first_newline xs + 1) xs ≡ take (first_newline xs) xs ++ 10 ∷ []
newline-split [] short = absurd (omega arith)
newline-split (x ∷ xs) short = at (x == 10) refl short (newline-split xs)
  where
    at : (b : Bool) → (x == 10) ≡ b → cond (not b) (1 + first_newline xs) 0 < length (x ∷ xs)
        → (first_newline xs < length xs → take (first_newline xs + 1) xs ≡ take (first_newline xs) xs ++ 10 ∷ [])
        → take (cond (not b) (1 + first_newline xs) 0 + 1) (x ∷ xs) ≡ take (cond (not b) (1 + first_newline xs) 0) (x ∷ xs) ++ 10 ∷ []
    at true is short rest = ap (λ n. n ∷ []) (eqb-true x 10 is)
    at false is short rest =
        let step : 1 + first_newline xs ≡ suc (first_newline xs) = omega arith in
        let steps : suc (first_newline xs) + 1 ≡ suc (first_newline xs + 1) = omega arith in
        rw (step, steps) (ap (λ l. x ∷ l) (rest (omega arith)))

found_by : (xs : List ℕ) (at : ℕ) (b : Bool) → ltb (first_newline xs) (length xs) ≡ b → Some at ≡ cond b (Some (first_newline xs)) None → IsNextPart (at + 1) true xs
found_by xs at true in_range found =
    let same : first_newline xs ≡ at = cc in
    let short = ltb-true (first_newline xs) (length xs) in_range in
    subst (λ n. IsNextPart (n + 1) true xs) same (record {
      within = omega arith;
      line = λ _. record { text = take (first_newline xs) xs; is = newline-split xs short; only = newlines-before xs };
      all = λ no. cc;
    })
found_by xs at false in_range found = cc

-- what the search for an LF says of the next part of a line
pub newline-found : (xs : List ℕ) (at : ℕ) → Some at ≡ position (λ byte. byte == 10) xs → IsNextPart (at + 1) true xs
newline-found xs at found = found_by xs at (ltb (first_newline xs) (length xs)) refl found

absent_by : (xs : List ℕ) (b : Bool) → ltb (first_newline xs) (length xs) ≡ b → None ≡ cond b (Some (first_newline xs)) None → IsNextPart (length xs) false xs
absent_by xs true in_range absent = cc
absent_by xs false in_range absent =
    let whole : take (first_newline xs) xs ≡ xs = take_all (first_newline xs) xs (ltb-false (first_newline xs) (length xs) in_range) in
    record {
      within = omega arith;
      line = λ no. cc;
      all = λ _. (refl, rw whole at (newlines-before xs));
    }

pub newline-absent : (xs : List ℕ) → None ≡ position (λ byte. byte == 10) xs → IsNextPart (length xs) false xs
newline-absent xs absent = absent_by xs (ltb (first_newline xs) (length xs)) refl absent
