-- Ratios that fit, and ratios that do not.
use Rattle.std.proofs.Common.{◌≡◌, ℕ, ◌*◌, ◌^◌, ◌<◌, ◌≤◌, false, ℤ, pos, sym, ap, ◌∙◌, arith, le_of_mul-le-mul_right, le-mul_of_pos_right}
use Rattle.std.specs.Prelude.{unsigned_abs, IsTrue}
use Rattle.std.proofs.lemmas.Bool.Decides.{nat_tests}
use Rattle.std.proofs.lemmas.Int.{unsigned_abs-mul}
use Rattle.exact_fraction.specs.Number.{den, ratio, fits}
use Rattle.exact_fraction.proofs.Lowest.{den_pos, ratio_value, ratio_no_greater}

-- a ratio of two that fit
pub ratio_fits : (n : ℤ) (d : ℕ) → 0 < d → unsigned_abs n < 2 ^ 63 → d < 2 ^ 63 → IsTrue (fits (ratio n d))
unfolding fits
ratio_fits n d p small below =
    let least = ratio_no_greater n d p in
    grind (arith, nat_tests)

-- one that is too large
pub ratio_overflows : (n : ℤ) (d : ℕ) → 0 < d → 2 ^ 63 * d ≤ unsigned_abs n → fits (ratio n d) ≡ false
unfolding fits
ratio_overflows n d p large =
    let value = ap unsigned_abs (ratio_value n d p) in
    let left = unsigned_abs-mul (ratio n d).num (pos d) in
    let right = unsigned_abs-mul n (pos (den (ratio n d))) in
    let sizes : unsigned_abs (ratio n d).num * d ≡ unsigned_abs n * den (ratio n d) = sym left ∙ value ∙ right in
    let under = den_pos (ratio n d) in
    let grown : unsigned_abs n ≤ unsigned_abs n * den (ratio n d) = le-mul_of_pos_right (unsigned_abs n) under in
    let most : 2 ^ 63 * d ≤ unsigned_abs (ratio n d).num * d = omega arith in
    let size : 2 ^ 63 ≤ unsigned_abs (ratio n d).num = le_of_mul-le-mul_right most p in
    grind (arith, nat_tests)
