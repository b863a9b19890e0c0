-- Where the blanks at the end of a text begin.
use Rattle.std.proofs.Common.{◌≡◌, ℕ, zero, suc, ◌+◌, ◌<◌, Bool, true, false, cond, ◌&&◌, List, [], ◌∷◌, length, get_or, take, drop, refl, ap, sym, ◌∙◌, arith}
use Rattle.std.specs.List.{list_all}
use Rattle.std.proofs.lemmas.List.{drop_more}
use Rattle.inp_text.specs.Items.{is_blank}
use Rattle.trace_csv.specs.Fields.{without_end_blanks}

-- a text of blanks alone
pub blanks_alone : (text : List ℕ) → list_all is_blank text ≡ true → [] ≡ without_end_blanks text
unfolding without_end_blanks
blanks_alone [] all = refl
blanks_alone (byte ∷ bytes) all = sym (ap (λ test. cond test [] (byte ∷ without_end_blanks bytes)) all)

not_both : (a b : Bool) → a ≡ false → a && b ≡ false
not_both true b h = cc
not_both false b h = refl

not_all : (a b : Bool) → b ≡ false → a && b ≡ false
not_all true b h = h
not_all false b h = refl

some_other : (text : List ℕ) (at d : ℕ) → at < length text → is_blank (get_or text at d) ≡ false → list_all is_blank text ≡ false
some_other [] at d within other = absurd (omega arith)
some_other (byte ∷ bytes) zero d within other = not_both (is_blank byte) (list_all is_blank bytes) other
some_other (byte ∷ bytes) (suc at) d within other =
    not_all (is_blank byte) (list_all is_blank bytes) (some_other bytes at d (omega arith) other)

ends_behind : (text : List ℕ) (at d : ℕ) → at < length text → is_blank (get_or text at d) ≡ false
    → list_all is_blank (drop (suc at) text) ≡ true → take (suc at) text ≡ without_end_blanks text
unfolding without_end_blanks
ends_behind [] at d within other rest = absurd (omega arith)
ends_behind (byte ∷ bytes) zero d within other rest =
    ap (λ more. byte ∷ more) (blanks_alone bytes rest)
    ∙ sym (ap (λ test. cond test [] (byte ∷ without_end_blanks bytes)) (some_other (byte ∷ bytes) 0 d (omega arith) other))
ends_behind (byte ∷ bytes) (suc at) d within other rest =
    ap (λ more. byte ∷ more) (ends_behind bytes at d (omega arith) other rest)
    ∙ sym (ap (λ test. cond test [] (byte ∷ without_end_blanks bytes)) (some_other (byte ∷ bytes) (suc at) d within other))

one_more : (at : ℕ) → at + 1 ≡ suc at
one_more at = omega arith

-- the text ends behind its last byte that is no blank
pub ends_at : (text : List ℕ) (at after d : ℕ) → after ≡ suc at → at < length text → is_blank (get_or text at d) ≡ false
    → list_all is_blank (drop after text) ≡ true → take (at + 1) text ≡ without_end_blanks text
ends_at text at after d next within other rest =
    ap (λ n. take n text) (one_more at) ∙ ends_behind text at d within other (ap (λ n. list_all is_blank (drop n text)) (sym next) ∙ rest)

-- one more blank before blanks
pub one_more_blank : (text : List ℕ) (at after d : ℕ) → after ≡ suc at → at < length text → is_blank (get_or text at d) ≡ true
    → list_all is_blank (drop after text) ≡ true → list_all is_blank (drop at text) ≡ true
one_more_blank text at after d next within blank rest =
    ap (list_all is_blank) (drop_more text at d within)
    ∙ ap (λ n. is_blank (get_or text at d) && list_all is_blank (drop n text)) (the_same at after next)
    ∙ ap (λ test. test && list_all is_blank (drop after text)) blank ∙ rest
  where
    the_same : (at after : ℕ) → after ≡ suc at → at + 1 ≡ after
    the_same at after next = omega arith
