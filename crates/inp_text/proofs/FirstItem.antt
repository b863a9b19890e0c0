-- The first item of a line is found by two cuts.
use Rattle.std.proofs.Common.{◌≡◌, ℕ, Bool, true, false, List, [], ◌∷◌, refl, ap, sym, ◌∙◌}
use Rattle.std.specs.Prelude.{if◌then◌else◌}
use Rattle.inp_text.specs.Items.{is_blank, begins_blank, onto_first, words}
use Rattle.inp_text.specs.Headings.{first_of}
use Rattle.inp_text.specs.internal.FirstItems.{take_solid, drop_blanks}

-- a byte before a run begins it
first_of-onto_first : (byte : ℕ) (found : List (List ℕ)) → first_of (onto_first byte found) ≡ byte ∷ first_of found
first_of-onto_first byte [] = refl
first_of-onto_first byte (word ∷ later) = refl

-- what one byte does, by whether it and the next are blanks
solid_case : (here : Bool) (next : Bool) (byte : ℕ) (rest : List ℕ) (found : List (List ℕ)) →
    here ≡ false → (next ≡ true → take_solid rest ≡ []) → (next ≡ false → first_of found ≡ take_solid rest) →
    first_of (if here then found else (if next then (byte ∷ []) ∷ found else onto_first byte found)) ≡ (if here then [] else byte ∷ take_solid rest)
solid_case true next byte rest found e p q = cc
solid_case false true byte rest found e p q = ap (λ run. byte ∷ run) (sym (p refl))
solid_case false false byte rest found e p q = first_of-onto_first byte found ∙ ap (λ run. byte ∷ run) (q refl)

stopped : (byte : Bool) (run : List ℕ) → byte ≡ true → (if byte then [] else run) ≡ []
stopped true run e = refl
stopped false run e = cc

take_solid-blank : (text : List ℕ) → begins_blank text ≡ true → take_solid text ≡ []
take_solid-blank [] e = refl
take_solid-blank (byte ∷ rest) e = stopped (is_blank byte) (byte ∷ take_solid rest) e

first_of-words : (text : List ℕ) → begins_blank text ≡ false → first_of (words text) ≡ take_solid text
first_of-words [] e = cc
first_of-words (byte ∷ rest) e =
    solid_case (is_blank byte) (begins_blank rest) byte rest (words rest) e (take_solid-blank rest) (first_of-words rest)

-- the same where there may be blanks at the front
front_case : (here : Bool) (byte : ℕ) (rest : List ℕ) → is_blank byte ≡ here →
    first_of (words rest) ≡ take_solid (drop_blanks rest) →
    first_of (words (byte ∷ rest)) ≡ take_solid (if here then drop_blanks rest else byte ∷ rest)
front_case true byte rest e p = ap (λ b. first_of (if b then words rest else (if begins_blank rest then (byte ∷ []) ∷ words rest else onto_first byte (words rest)))) e ∙ p
front_case false byte rest e p = first_of-words (byte ∷ rest) e

pub first_of-front : (text : List ℕ) → first_of (words text) ≡ take_solid (drop_blanks text)
first_of-front [] = refl
first_of-front (byte ∷ rest) = front_case (is_blank byte) byte rest refl (first_of-front rest)
