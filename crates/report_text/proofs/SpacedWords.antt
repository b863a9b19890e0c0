-- The words of a line that single spaces part.
use Rattle.std.proofs.Common.{◌≡◌, ℕ, ◌==◌, false, List, [], ◌∷◌, ◌++◌, codes, refl, ap, ◌∙◌, arith, append_assoc}
use Rattle.std.specs.Prelude.{All, decimal, ℤ}
use Rattle.std.proofs.lemmas.List.Splits.{slice_split_at, slice_split_none}
use Rattle.exact_fraction.specs.Number.{Rational}
use Rattle.num_text.specs.Values.{written_value}
use Rattle.num_text.specs.Written.{written_moment}
use Rattle.report_lines.specs.Words.{words_of}
use Rattle.report_text.proofs.HighBytes.{without, AreHigh, of_decimal, of_value, of_moment}

-- a text without a space
abbrev pub IsOneWord : List ℕ → Type 0
IsOneWord text = All (λ byte. (byte == 32) ≡ false) text

pub one_word : (text : List ℕ) → AreHigh text → IsOneWord text
one_word text high = without 32 (omega arith) text high

-- a word and a space at the head of a line, and a word alone
pub word_first : (word rest : List ℕ) → IsOneWord word → words_of (word ++ (32 ∷ rest)) ≡ word ∷ words_of rest
unfolding words_of
word_first word rest plain = slice_split_at (λ byte. byte == 32) word 32 rest plain refl

pub word_alone : (word : List ℕ) → IsOneWord word → words_of word ≡ word ∷ []
unfolding words_of
word_alone word plain = slice_split_none (λ byte. byte == 32) word plain

-- two and three words in a row
pub two : (first second : List ℕ) → IsOneWord first → IsOneWord second
    → words_of ((first ++ codes " ") ++ second) ≡ first ∷ second ∷ []
two first second one other =
    ap words_of (append_assoc first (codes " ") second) ∙ word_first first second one
    ∙ ap (λ l. first ∷ l) (word_alone second other)

pub three : (first second third : List ℕ) → IsOneWord first → IsOneWord second → IsOneWord third
    → words_of ((((first ++ codes " ") ++ second) ++ codes " ") ++ third) ≡ first ∷ second ∷ third ∷ []
three first second third one other last =
    ap words_of (append_assoc ((first ++ codes " ") ++ second) (codes " ") third
    ∙ append_assoc (first ++ codes " ") second (32 ∷ third)
    ∙ append_assoc first (codes " ") (second ++ (32 ∷ third)))
    ∙ word_first first (second ++ (32 ∷ third)) one
    ∙ ap (λ l. first ∷ l) (word_first second third other)
    ∙ ap (λ l. first ∷ second ∷ l) (word_alone third last)

pub of_number : (n : ℕ) → IsOneWord (decimal n)
of_number n = one_word (decimal n) (of_decimal n)

pub of_fraction : (q : Rational) → IsOneWord (written_value q)
of_fraction q = one_word (written_value q) (of_value q)

pub of_second : (second : ℤ) → IsOneWord (written_moment second)
of_second second = one_word (written_moment second) (of_moment second)
