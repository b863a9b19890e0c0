-- Numbers as the code passes them.
use Rattle.std.proofs.Common.{◌≡◌, ◌<◌, ◌^◌, ℤ, ap, ◌∙◌, arith, to_z, of_z, w64}
use Rattle.std.specs.Int.{w128}
use Rattle.std.specs.Prelude.{unsigned_abs}
use Rattle.std.proofs.lemmas.Bool.Decides.{nat_tests}
use Rattle.std.proofs.lemmas.Int.{to_z-of_z, fits_signed_from_abs}
use Rattle.exact_fraction.specs.Number.{Rational, den, fits, IsNumber}

pub den_small : (q : Rational) → IsNumber q → den q < 2 ^ 63
unfolding fits
den_small q h = let known = h.fitting in grind (arith, nat_tests)

pub passed_wide : (n : ℤ) → unsigned_abs n < 2 ^ 63 → to_z w128 (of_z w128 (to_z w64 (of_z w64 n))) ≡ n
passed_wide n h =
    ap (λ x. to_z w128 (of_z w128 x)) (to_z-of_z w64 n (fits_signed_from_abs w64 n h))
    ∙ to_z-of_z w128 n (fits_signed_from_abs w128 n (omega arith))
