-- A text without a double quote, CR and LF that is cut at its commas in one walk.
use Rattle.std.proofs.Common.{◌≡◌, ℕ, suc, zero, ◌+◌, ◌-◌, ◌<◌, ◌≤◌, Bool, true, false, not, cond, ◌==◌, ◌&&◌, List, [], ◌∷◌, length, get_or, take, drop, refl, ap, sym, ◌∙◌, arith}
use Rattle.std.specs.List.{list_all, onto_first}
use Rattle.std.proofs.lemmas.List.{take_rest, take_all}
use Rattle.std.proofs.lemmas.Bool.Decides.{nat_tests}
use Rattle.trace_csv.specs.Records.{comma, cut_at_commas, is_plain}

-- a byte other than a comma
abbrev pub is_other : ℕ → Bool
is_other byte = not (byte == comma)

both : (a b : Bool) → a ≡ true → b ≡ true → (a && b) ≡ true
both true true one two = refl
both true false one two = two
both false b one two = one

left_true : (a b : Bool) → (a && b) ≡ true → a ≡ true
left_true true b h = refl
left_true false b h = h

right_true : (a b : Bool) → (a && b) ≡ true → b ≡ true
right_true true b h = h
right_true false b h = cc

at_first : (text : List ℕ) (at : ℕ) → at < length text → list_all is_other (take at text) ≡ true
    → get_or text at 0 ≡ comma → cut_at_commas text ≡ take at text ∷ cut_at_commas (drop (suc at) text)
at_first [] at within others here = absurd (omega arith)
at_first (byte ∷ bytes) zero within others here = ap (λ b. cut_at_commas (b ∷ bytes)) here
at_first (byte ∷ bytes) (suc at) within others here =
    by_test (byte == comma) others (λ h. at_first bytes at (omega arith) h here)
  where
    by_test : (test : Bool) → (not test && list_all is_other (take at bytes)) ≡ true
        → (list_all is_other (take at bytes) ≡ true → cut_at_commas bytes ≡ take at bytes ∷ cut_at_commas (drop (suc at) bytes))
        → cond test ([] ∷ cut_at_commas bytes) (onto_first byte (cut_at_commas bytes)) ≡ (byte ∷ take at bytes) ∷ cut_at_commas (drop (suc at) bytes)
    by_test true h again = cc
    by_test false h again = ap (onto_first byte) (again h)

pub cut_first : (text : List ℕ) (at : ℕ) → at < length text → list_all is_other (take at text) ≡ true
    → get_or text at 0 ≡ comma
    → cut_at_commas text ≡ take at text ∷ cut_at_commas (take (length text - (at + 1)) (drop (at + 1) text))
cut_first text at within others here =
    let next : suc at ≡ at + 1 = omega arith in
    at_first text at within others here
    ∙ ap (λ k. take at text ∷ cut_at_commas (drop k text)) next
    ∙ ap (λ rest. take at text ∷ cut_at_commas rest) (sym (take_rest text (at + 1)))

no_comma : (text : List ℕ) → list_all is_other text ≡ true → cut_at_commas text ≡ text ∷ []
no_comma [] others = refl
no_comma (byte ∷ bytes) others = by_test (byte == comma) others (no_comma bytes) where
  by_test : (test : Bool) → (not test && list_all is_other bytes) ≡ true
      → (list_all is_other bytes ≡ true → cut_at_commas bytes ≡ bytes ∷ [])
      → cond test ([] ∷ cut_at_commas bytes) (onto_first byte (cut_at_commas bytes)) ≡ (byte ∷ bytes) ∷ []
  by_test true h again = cc
  by_test false h again = ap (onto_first byte) (again h)

pub cut_last : (text : List ℕ) (at : ℕ) → length text ≤ at → list_all is_other (take at text) ≡ true
    → cut_at_commas text ≡ text ∷ []
cut_last text at end others = no_comma text (ap (list_all is_other) (sym (take_all at text end)) ∙ others)

plain_at : (text : List ℕ) (at : ℕ) → at < length text → list_all is_plain (take at text) ≡ true
    → is_plain (get_or text at 0) ≡ true → list_all is_plain (drop (suc at) text) ≡ true
    → list_all is_plain text ≡ true
plain_at [] at within front here behind = absurd (omega arith)
plain_at (byte ∷ bytes) zero within front here behind = both (is_plain byte) (list_all is_plain bytes) here behind
plain_at (byte ∷ bytes) (suc at) within front here behind =
    both (is_plain byte) (list_all is_plain bytes)
    (left_true (is_plain byte) (list_all is_plain (take at bytes)) front)
    (plain_at bytes at (omega arith) (right_true (is_plain byte) (list_all is_plain (take at bytes)) front) here behind)

pub plain_first : (text : List ℕ) (at : ℕ) → at < length text → list_all is_plain (take at text) ≡ true
    → is_plain (get_or text at 0) ≡ true
    → list_all is_plain (take (length text - (at + 1)) (drop (at + 1) text)) ≡ true
    → list_all is_plain text ≡ true
plain_first text at within front here behind =
    let next : suc at ≡ at + 1 = omega arith in
    plain_at text at within front here
    (ap (λ k. list_all is_plain (drop k text)) next ∙ ap (list_all is_plain) (sym (take_rest text (at + 1))) ∙ behind)

pub plain_last : (text : List ℕ) (at : ℕ) → length text ≤ at → list_all is_plain (take at text) ≡ true
    → list_all is_plain text ≡ true
plain_last text at end front = ap (list_all is_plain) (sym (take_all at text end)) ∙ front

-- a byte that counts as one comma
pub is_comma_by : (byte commas : ℕ) → commas ≡ cond (byte == comma) 1 0 → commas ≡ 1 → byte ≡ comma
is_comma_by byte commas count one = by_test (byte == comma) refl count where
  by_test : (test : Bool) → (byte == comma) ≡ test → commas ≡ cond test 1 0 → byte ≡ comma
  by_test true is count = grind (arith, nat_tests)
  by_test false is count = absurd (omega (arith, count, one))
