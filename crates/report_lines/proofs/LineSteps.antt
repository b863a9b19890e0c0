-- Lines, part by part.
use Rattle.std.proofs.Common.{◌≡◌, ℕ, ◌<◌, ◌==◌, Bool, true, false, cond, List, [], ◌∷◌, ◌++◌, length, drop, drop-cons, None, Some, refl, sym, ap, ◌∙◌, arith, append_assoc}
use Rattle.std.specs.List.{slice_split, onto_first}
use Rattle.std.specs.Str.{bytes_eq}
use Rattle.report_lines.specs.KeyLines.{past_text, piece_by}
use Rattle.report_lines.specs.TreeLines.{first_is, fact_text}
use Rattle.report_lines.specs.Words.{Word, words_of}
use Rattle.report_lines.specs.internal.Views.{parts_behind}

-- a text that is longer than the line
pub past_empty : (text line left : List ℕ) (at : ℕ) → at < length text → length left < 1
    → past_text (drop at text) left ≡ past_text text line → None ≡ past_text text line
unfolding past_text
past_empty text line [] at within short e =
    sym (ap (λ t. past_text t []) (drop-cons text at 0 within)) ∙ e
past_empty text line (byte ∷ left) at within short e = absurd (omega (arith, short))

-- the first word of a line
pub first_part : (text part : List ℕ) (rest : List Word)
    → slice_split (λ byte. byte == 32) text ≡ part ∷ rest
    → bytes_eq part fact_text ≡ first_is fact_text (words_of text)
unfolding words_of
first_part text part rest e = ap (first_is fact_text) (sym e)

-- there is always a part
some_part : (low high rest : List ℕ)
    → None ≡ piece_by (low ∷ (high ∷ slice_split (λ byte. byte == 44) rest))
some_part low high [] = refl
some_part low high (byte ∷ rest) =
    by_test (byte == 44) (slice_split (λ byte. byte == 44) rest)
  where
    onto : (parts : List (List ℕ)) → None ≡ piece_by (low ∷ (high ∷ onto_first byte parts))
    onto [] = refl
    onto (part ∷ parts) = refl

    by_test : (b : Bool) (parts : List (List ℕ))
        → None ≡ piece_by (low ∷ (high ∷ cond b ([] ∷ parts) (onto_first byte parts)))
    by_test true parts = refl
    by_test false parts = onto parts

pub three_parts : (low high rest : List ℕ) (parts : List (List ℕ))
    → parts ≡ high ∷ parts_behind 44 (Some rest) → None ≡ piece_by (low ∷ parts)
three_parts low high rest parts e =
    some_part low high rest ∙ ap (λ l. piece_by (low ∷ l)) (sym e)

-- one word more
pub word_step : (all done : List Word) (left part rest : List ℕ)
    → slice_split (λ byte. byte == 32) left ≡ part ∷ parts_behind 32 (Some rest)
    → done ++ words_of left ≡ all → (done ++ part ∷ []) ++ words_of rest ≡ all
unfolding words_of
word_step all done left part rest cut e =
    append_assoc done (part ∷ []) (words_of rest) ∙ ap (λ l. done ++ l) (sym cut) ∙ e

-- the last word
pub word_end : (all done : List Word) (left part : List ℕ)
    → slice_split (λ byte. byte == 32) left ≡ part ∷ parts_behind 32 None
    → done ++ words_of left ≡ all → done ++ part ∷ [] ≡ all
unfolding words_of
word_end all done left part cut e = ap (λ l. done ++ l) (sym cut) ∙ e

-- texts in a row
flat : (out head number end : List ℕ)
    → ((out ++ head) ++ number) ++ end ≡ out ++ ((head ++ number) ++ end)
flat out head number end = simp append_assoc refl

pub shape_joined : (out head number end a b : List ℕ) → a ≡ out ++ head → b ≡ a ++ number
    → b ++ end ≡ out ++ ((head ++ number) ++ end)
shape_joined out head number end a b e h =
    ap (λ x. x ++ end) h ∙ ap (λ x. (x ++ number) ++ end) e ∙ flat out head number end
