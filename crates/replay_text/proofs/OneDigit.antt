-- Numbers of one digit, as they are written.
use Rattle.std.proofs.Common.{◌≡◌, ℕ, zero, suc, ◌+◌, ◌<◌, [], ◌∷◌, refl, ap, ◌∙◌, arith, pos}
use Rattle.std.proofs.lemmas.Int.{ints}
use Rattle.std.specs.Fmt.{digits}
use Rattle.exact_fraction.specs.Number.{Rational, den}
use Rattle.num_text.specs.Numbers.{without_end_zeros}
use Rattle.num_text.specs.Values.{written_value, written_size, written_units}
use Rattle.num_text.specs.Written.{places}

digit_written : (n : ℕ) → n < 10 → written_value (record { num = pos n; below = 0 }) ≡ (48 + n) ∷ []
unfolding written_value written_size written_units without_end_zeros places den digits
digit_written zero small = refl
digit_written (suc zero) small = refl
digit_written (suc (suc zero)) small = refl
digit_written (suc (suc (suc zero))) small = refl
digit_written (suc (suc (suc (suc zero)))) small = refl
digit_written (suc (suc (suc (suc (suc zero))))) small = refl
digit_written (suc (suc (suc (suc (suc (suc zero)))))) small = refl
digit_written (suc (suc (suc (suc (suc (suc (suc zero))))))) small = refl
digit_written (suc (suc (suc (suc (suc (suc (suc (suc zero)))))))) small = refl
digit_written (suc (suc (suc (suc (suc (suc (suc (suc (suc zero))))))))) small = refl
digit_written (suc (suc (suc (suc (suc (suc (suc (suc (suc (suc n)))))))))) small = absurd (omega (arith, small))

-- a number of one digit, by its two numbers
pub digit_value : (q : Rational) (n : ℕ) → q.num ≡ pos n → pos (den q) ≡ pos 1 → n < 10 → written_value q ≡ (48 + n) ∷ []
unfolding den
digit_value q n is one small =
    let below : q.below ≡ 0 = omega (arith, ints, one) in
    ap written_value (λ i. record { num = is i; below = below i }) ∙ digit_written n small
