-- Products and roundings that are computed at 128 bits, and lowest terms at 64 or 128 bits.
use Rattle.std.proofs.Common.{◌≡◌, ℕ, suc, ◌+◌, ◌*◌, ◌/◌, ◌^◌, ◌<◌, ℤ, pos, negsuc, neg_ℤ, ◌-ℤ◌, ◌*ℤ◌, ◌≤ℤ◌, ◌<ℤ◌, refl, sym, ap, ap₂, ◌∙◌, arith, div-lt_iff_lt-mul, le-mul_of_pos_right, to_z, of_z, SFits}
use Rattle.std.specs.Prelude.{unsigned_abs, int_div, FitsSigned}
use mir.Val.{hbits}
use Rattle.std.specs.Int.{Width, w128}
use Rattle.std.proofs.lemmas.Nat.{mul-lt}
use Rattle.std.proofs.lemmas.Nat.Gcd.{le_of_dvd}
use Rattle.std.proofs.lemmas.Int.{ints, to_z-of_z, to_z_pos, unsigned_abs-mul, fits_signed_from_abs, quot_fits}
use Rattle.exact_fraction.specs.Number.{den, gcd, ratio}
use Rattle.exact_fraction.specs.Operations.{nearest_whole}
use Rattle.exact_fraction.proofs.Lowest.{IsGcd-gcd, gcd_pos, num-cancelled, den-cancelled}

-- ---- products of two numbers of 63 bits
pub product_size : (a b : ℤ) → unsigned_abs a < 2 ^ 63 → unsigned_abs b < 2 ^ 63 → unsigned_abs (a *ℤ b) < 2 ^ 126
product_size a b p q = rw (unsigned_abs-mul a b) (mul-lt (unsigned_abs a) (unsigned_abs b) (2 ^ 63) (2 ^ 63) p q)

pub product_passed : (a b : ℤ) → SFits w128 a → SFits w128 b → unsigned_abs a < 2 ^ 63 → unsigned_abs b < 2 ^ 63 → to_z w128 (of_z w128 (to_z w128 (of_z w128 a) *ℤ to_z w128 (of_z w128 b))) ≡ a *ℤ b
product_passed a b f g p q =
    ap (λ x. to_z w128 (of_z w128 (x *ℤ to_z w128 (of_z w128 b)))) (to_z-of_z w128 a f)
    ∙ ap (λ x. to_z w128 (of_z w128 (a *ℤ x))) (to_z-of_z w128 b g)
    ∙ to_z-of_z w128 (a *ℤ b) (fits_signed_from_abs w128 (a *ℤ b) (omega (arith, product_size a b p q)))

-- ---- lowest terms, at a width of w bits
size_pos : (d : ℤ) → pos 0 <ℤ d → (pos (unsigned_abs d) ≡ d) × (0 < unsigned_abs d)
size_pos (pos n) h = (refl, omega (arith, ints))
size_pos (negsuc n) h = absurd (omega (arith, ints))

size_fits : (w : Width) (d : ℤ) → pos 0 <ℤ d → SFits w d → unsigned_abs d < 2 ^ hbits w
size_fits w (pos n) h f = f.sfits
size_fits w (negsuc n) h f = absurd (omega (arith, ints))

pub divisor_fits : (w : Width) (n d : ℤ) (g : ℕ) → pos 0 <ℤ d → SFits w d
    → g ≡ gcd (unsigned_abs n) (unsigned_abs d) → (0 < g) × (g < 2 ^ hbits w)
divisor_fits w n d g h f e =
    let p = (size_pos d h).1 in
    let a = gcd_pos (unsigned_abs n) (unsigned_abs d) p in
    let b = le_of_dvd p (IsGcd-gcd (unsigned_abs n) (unsigned_abs d)).1 in
    let c = size_fits w d h f in
    (omega (arith, a, e), omega (arith, b, c, e))

quotient_fits : (w : Width) (n : ℤ) (g : ℕ) → SFits w n → 0 < g → FitsSigned w (int_div n (pos g))
quotient_fits w n g f p = quot_fits w n (pos g) f (omega (arith, ints))

quotient_passed : (w : Width) (n : ℤ) (g : ℕ) → SFits w n → 0 < g → g < 2 ^ hbits w
    → to_z w (of_z w (int_div (to_z w (of_z w n)) (to_z w g))) ≡ int_div n (pos g)
quotient_passed w n g f p q =
    ap (λ x. to_z w (of_z w (int_div x (to_z w g)))) (to_z-of_z w n f)
    ∙ ap (λ x. to_z w (of_z w (int_div n x))) (to_z_pos w g q)
    ∙ to_z-of_z w (int_div n (pos g)) (quotient_fits w n g f p)

pub divisor_divides : (w : Width) (n d : ℤ) (g : ℕ) (m : ℤ) → pos 0 <ℤ d → SFits w d → SFits w m
    → g ≡ gcd (unsigned_abs n) (unsigned_abs d)
    → (0 < g) × FitsSigned w (int_div (to_z w (of_z w m)) (to_z w g))
divisor_divides w n d g m h f k e =
    let b = divisor_fits w n d g h f e in
    (b.0, rw (to_z-of_z w m k, to_z_pos w g b.1) (quotient_fits w m g k b.0))

pub num_reduced : (w : Width) (n d : ℤ) (g : ℕ) → pos 0 <ℤ d → SFits w n → SFits w d
    → g ≡ gcd (unsigned_abs n) (unsigned_abs d)
    → to_z w (of_z w (int_div (to_z w (of_z w n)) (to_z w g))) ≡ (ratio n (unsigned_abs d)).num
unfolding ratio
num_reduced w n d g h k f e =
    let b = divisor_fits w n d g h f e in
    let a = unsigned_abs n in
    let c = unsigned_abs d in
    quotient_passed w n g k b.0 b.1
    ∙ ap (λ x. int_div n (pos x)) e
    ∙ sym (num-cancelled n c (gcd a c) (gcd_pos a c (size_pos d h).1))

pub den_reduced : (w : Width) (n d : ℤ) (g : ℕ) → pos 0 <ℤ d → SFits w d
    → g ≡ gcd (unsigned_abs n) (unsigned_abs d)
    → to_z w (of_z w (int_div (to_z w (of_z w d)) (to_z w g))) ≡ pos (den (ratio n (unsigned_abs d)))
unfolding ratio
den_reduced w n d g h f e =
    let b = divisor_fits w n d g h f e in
    let s = size_pos d h in
    let a = unsigned_abs n in
    let c = unsigned_abs d in
    quotient_passed w d g f b.0 b.1
    ∙ ap (λ x. int_div d (pos x)) e
    ∙ ap (λ x. int_div x (pos (gcd a c))) (sym s.0)
    ∙ ap pos (sym (den-cancelled n c (gcd a c) s.1 (gcd_pos a c s.1) (IsGcd-gcd a c).1))

-- ---- rounding
nearest_size_small : (n d : ℕ) → 0 < d → (2 * n + d) / (2 * d) < n + 1
nearest_size_small n d p =
    (div-lt_iff_lt-mul {k = 2 * d} {x = 2 * n + d} {y = n + 1} (omega arith)).1 (omega (arith, le-mul_of_pos_right {m = d} n p))

pub nearest_positive : (n s : ℤ) (d : ℕ) → pos 0 ≤ℤ n → 0 < d → unsigned_abs n < 2 ^ 126 → s ≡ pos ((2 * unsigned_abs n + d) / (2 * d)) → to_z w128 (of_z w128 s) ≡ nearest_whole n d
unfolding nearest_whole
nearest_positive (pos n) s d h p q e =
    ap (λ x. to_z w128 (of_z w128 x)) e
    ∙ to_z-of_z w128 (pos ((2 * n + d) / (2 * d))) (fits_signed_from_abs w128 (pos ((2 * n + d) / (2 * d))) (omega (arith, nearest_size_small n d p)))
nearest_positive (negsuc n) s d h p q e = absurd (omega (arith, ints))

minus_passed : (k : ℕ) → k < 2 ^ 127 → to_z w128 (of_z w128 (pos 0 -ℤ to_z w128 (of_z w128 (pos k)))) ≡ neg_ℤ (pos k)
minus_passed k h = omega (arith, ints)

pub nearest_negative : (n s : ℤ) (d : ℕ) → n <ℤ pos 0 → 0 < d → unsigned_abs n < 2 ^ 126 → s ≡ pos ((2 * unsigned_abs n + d) / (2 * d)) → to_z w128 (of_z w128 (pos 0 -ℤ to_z w128 (of_z w128 s))) ≡ nearest_whole n d
unfolding nearest_whole
nearest_negative (pos n) s d h p q e = absurd (omega (arith, ints))
nearest_negative (negsuc n) s d h p q e =
    ap (λ x. to_z w128 (of_z w128 (pos 0 -ℤ to_z w128 (of_z w128 x)))) e
    ∙ minus_passed ((2 * suc n + d) / (2 * d)) (omega (arith, nearest_size_small (suc n) d p))

-- ---- sizes of numbers that were passed
size_passed : (w : Width) (n : ℤ) (u : ℕ) → SFits w n → u ≡ unsigned_abs (to_z w (of_z w n))
    → u ≡ unsigned_abs n
size_passed w n u f e = e ∙ ap unsigned_abs (to_z-of_z w n f)

pub divisor_passed : (w : Width) (n d : ℤ) (u v g : ℕ) → SFits w n → SFits w d
    → u ≡ unsigned_abs (to_z w (of_z w n)) → v ≡ unsigned_abs (to_z w (of_z w d)) → g ≡ gcd u v
    → g ≡ gcd (unsigned_abs n) (unsigned_abs d)
divisor_passed w n d u v g f k a b e = e ∙ ap₂ gcd (size_passed w n u f a) (size_passed w d v k b)

pub rounded_passed : (n d : ℤ) (u v : ℕ) (s : ℤ) → SFits w128 n → SFits w128 d
    → u ≡ unsigned_abs (to_z w128 (of_z w128 n)) → v ≡ unsigned_abs (to_z w128 (of_z w128 d))
    → s ≡ pos ((2 * u + v) / (2 * v))
    → s ≡ pos ((2 * unsigned_abs n + unsigned_abs d) / (2 * unsigned_abs d))
rounded_passed n d u v s f k a b e =
    e ∙ ap₂ (λ x y. pos ((2 * x + y) / (2 * y))) (size_passed w128 n u f a) (size_passed w128 d v k b)
