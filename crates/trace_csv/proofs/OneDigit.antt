-- Fields of one digit, as they are read.
use Rattle.std.proofs.Common.{◌≡◌, ℕ, zero, suc, ◌+◌, ◌-◌, ◌<◌, ◌≤◌, List, [], ◌∷◌, length, get_or, Some, Ok, refl, sym, ap, ◌∙◌, arith, pos}
use Rattle.exact_fraction.specs.Number.{Rational, den, whole, ratio, cancelled, gcd, last_remainder, fits}
use Rattle.num_text.specs.Fields.{leading_digits, past_digits}
use Rattle.num_text.specs.Numbers.{spelling_of, spelled, bounded, scaled, without_end_zeros}
use Rattle.trace_csv.specs.Fields.{without_end_blanks, field_input}

pub digit_read : (n : ℕ) → n < 10 → field_input ((48 + n) ∷ []) ≡ Ok (Some (whole (pos n)))
unfolding field_input without_end_blanks leading_digits past_digits spelling_of spelled bounded scaled without_end_zeros whole ratio cancelled gcd last_remainder fits den
digit_read zero small = refl
digit_read (suc zero) small = refl
digit_read (suc (suc zero)) small = refl
digit_read (suc (suc (suc zero))) small = refl
digit_read (suc (suc (suc (suc zero)))) small = refl
digit_read (suc (suc (suc (suc (suc zero))))) small = refl
digit_read (suc (suc (suc (suc (suc (suc zero)))))) small = refl
digit_read (suc (suc (suc (suc (suc (suc (suc zero))))))) small = refl
digit_read (suc (suc (suc (suc (suc (suc (suc (suc zero)))))))) small = refl
digit_read (suc (suc (suc (suc (suc (suc (suc (suc (suc zero))))))))) small = refl
digit_read (suc (suc (suc (suc (suc (suc (suc (suc (suc (suc n)))))))))) small = absurd (omega (arith, small))

pub digit_text : (text : List ℕ) (number : Rational) → length text ≡ 1 → 48 ≤ get_or text 0 0 → get_or text 0 0 ≤ 57
    → number ≡ whole (pos (get_or text 0 0 - 48)) → field_input text ≡ Ok (Some number)
digit_text [] number long low high is = cc
digit_text (byte ∷ []) number long low high is =
    let back : 48 + (byte - 48) ≡ byte = omega arith in
    ap (λ b. field_input (b ∷ [])) (sym back) ∙ digit_read (byte - 48) (omega arith) ∙ ap (λ q. Ok (Some q)) (sym is)
digit_text (byte ∷ next ∷ more) number long low high is = absurd (omega (arith, long))
