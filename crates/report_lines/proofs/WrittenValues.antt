-- The number whose written value a word is, by what is spelled.
use Rattle.std.proofs.Common.{◌≡◌, ℕ, zero, suc, ◌+◌, ◌*◌, ◌^◌, Bool, true, false, cond, List, length, Option, None, Some, ℤ, pos, negsuc, refl, sym, ap, subst, ◌∙◌, arith}
use Rattle.std.specs.Prelude.{IfSome, IsTrue}
use Rattle.std.specs.Str.{bytes_eq}
use Rattle.std.proofs.lemmas.Slice.Eq.{bytes_eq-Decides}
use Rattle.std.proofs.lemmas.Option.{none-some, same_Some, option_and_then_some}
use Rattle.exact_fraction.specs.Checked.{made, fitting}
use Rattle.exact_fraction.specs.Number.{Rational, IsNumber, ratio, fits}
use Rattle.exact_fraction.proofs.PublicLaws.{lowest_terms-lowest}
use Rattle.std.specs.Str.Parse.{digits_value}
use Rattle.num_text.specs.Bytes.{slash}
use Rattle.num_text.specs.Fields.{◌>>=◌, field, last_number, past}
use Rattle.num_text.specs.Numbers.{signed, is_negative}
use Rattle.num_text.specs.Pointed.{decimals}
use Rattle.num_text.specs.Values.{spelled_value, spelled_behind, with_decimals, written_value, past_minus}
use Rattle.num_text.proofs.PublicLaws.{round_trips-value}
use Rattle.report_lines.specs.Words.{Word, value_of, value_if}

-- a fraction that fits is a number
fits_is : (p q : Rational) (b : Bool) → fits p ≡ b → cond b (Some p) None ≡ Some q → (p ≡ q) × IsTrue (fits p)
fits_is p q true e h = (same_Some p q h, e)
fits_is p q false e h = absurd (none-some q h)

made_number : (n d : ℤ) (q : Rational) → made n d ≡ Some q → IsNumber q
unfolding made fitting
made_number n (pos zero) q e = absurd (none-some q e)
made_number n (pos (suc d)) q e =
    let h = fits_is (ratio n (suc d)) q (fits (ratio n (suc d))) refl e in
    subst IsNumber h.0 (record { lowest = lowest_terms-lowest n (suc d) (omega arith); fitting = h.1 })
made_number n (negsuc d) q e = absurd (none-some q e)

behind_number : (negative : Bool) (size : ℕ) (rest : List ℕ) (below : Option (List ℕ)) (q : Rational)
    → spelled_behind negative size rest below ≡ Some q → IsNumber q
behind_number negative size rest None q e =
    option_and_then_some (with_decimals negative size) (decimals 18 rest) q e
    (λ behind is read. made_number (signed negative (size * 10 ^ length behind + digits_value 10 behind)) (pos (10 ^ length behind)) q read)
behind_number negative size rest (Some below) q e =
    option_and_then_some (λ denominator. made (signed negative size) (pos denominator)) (last_number (field 1 19 below)) q e
    (λ denominator is read. made_number (signed negative size) (pos denominator) q read)

spelled_number : (text : List ℕ) (q : Rational) → spelled_value text ≡ Some q → IsNumber q
unfolding spelled_value
spelled_number text q e =
    option_and_then_some (λ front. spelled_behind (is_negative text) front.number front.rest (past slash front.rest))
    (field 1 19 (past_minus text)) q e
    (λ front is read. behind_number (is_negative text) front.number front.rest (past slash front.rest) q read)

-- where a number is written again as the word
value_is : (word : Word) (p q : Rational) (b : Bool) → bytes_eq (written_value p) word ≡ b
    → cond b (Some p) None ≡ Some q → (p ≡ q) × (written_value p ≡ word)
value_is word p q true e h = (same_Some p q h, (bytes_eq-Decides (written_value p) word).0 e)
value_is word p q false e h = absurd (none-some q h)

pub value_read : (word : Word) (found : Option Rational)
    → IfSome found (λ q. written_value q ≡ word) → IfSome found IsNumber
    → ((q : Rational) → IsNumber q → written_value q ≡ word → found ≡ Some q)
    → found ≡ value_of word
unfolding value_of
value_read word (Some v) written held every =
    let spelled : spelled_value word ≡ Some v = ap spelled_value (sym written) ∙ round_trips-value v held in
    let same : bytes_eq (written_value v) word ≡ true = (bytes_eq-Decides (written_value v) word).1 written in
    sym (ap (λ o. o >>= value_if word) spelled ∙ ap (λ b. cond b (Some v) None) same)
value_read word None written held every = by (spelled_value word >>= value_if word) refl
  where
    by : (o : Option Rational) → (spelled_value word >>= value_if word) ≡ o → None ≡ o
    by None e = refl
    by (Some q) e =
        option_and_then_some (value_if word) (spelled_value word) q e
        (λ p is read.
        let h = value_is word p q (bytes_eq (written_value p) word) refl read in
        absurd (none-some p (every p (spelled_number word p is) h.1)))
