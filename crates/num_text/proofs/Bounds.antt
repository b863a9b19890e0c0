-- Numbers within their bounds.
use Rattle.std.proofs.Common.{◌≡◌, ℕ, zero, suc, ◌*◌, ◌^◌, ◌<◌, ◌≤◌, Bool, true, false, cond, List, [], ◌∷◌, ◌++◌, length, Some, None, Ok, Err, ℤ, pos, negsuc, ◌≤ℤ◌, ◌<ℤ◌, refl, sym, ap, ap₂, ◌+ℤ◌, ◌-ℤ◌, ◌∙◌, arith, inl, inr, ◌⊎◌, lit≤, le-mul_of_pos_right}
use Rattle.std.specs.Prelude.{◌==◌, unsigned_abs, int_le}
use Rattle.std.specs.Option.{ok_or}
use Rattle.std.proofs.Math.Nat.{pow-le-pow_right}
use Rattle.std.proofs.lemmas.Bool.Decides.{nat_tests}
use Rattle.std.proofs.lemmas.Bool.{cases_lt}
use Rattle.std.proofs.lemmas.Int.{ints}
use Rattle.exact_fraction.specs.Number.{Rational, ratio, fits}
use Rattle.exact_fraction.specs.Number.{zero as nought}
use Rattle.exact_fraction.specs.Checked.{made, fitting}
use Rattle.num_text.specs.declared.error.NumberFault.TheVariants.{TooLarge}
use Rattle.num_text.specs.Fields.{is_end}
use Rattle.num_text.specs.Numbers.{signed, scaled, bounded, in_bounds, significand, end_zeros}
use Rattle.num_text.specs.internal.Significands.{IsHeld}
use Rattle.num_text.proofs.Digits.{ten_pos}
use Rattle.exact_fraction.proofs.PublicLaws.{lowest_terms-overflows}

-- the size of a number with a sign
pub size-signed : (negative : Bool) (size : ℕ) → unsigned_abs (signed negative size) ≡ size
size-signed true zero = refl
size-signed true (suc size) = refl
size-signed false size = refl

-- a ratio that is made, or TooLarge
by_fits : (q : Rational) (b : Bool) → ok_or (cond b (Some q) None) TooLarge ≡ cond b (Ok q) (Err TooLarge)
by_fits q true = refl
by_fits q false = refl

pub made-in_bounds : (n d : ℤ) (below : ℕ) → d ≡ pos below → 0 < below → ok_or (made n d) TooLarge ≡ in_bounds (ratio n below)
unfolding made fitting
made-in_bounds n d zero e p = absurd (omega arith)
made-in_bounds n d (suc below) e p = rw e (by_fits (ratio n (suc below)) (fits (ratio n (suc below))))

-- ---- the power of ten
pub bounded-zero : (negative : Bool) (size : ℕ) (power : ℤ) → size ≡ 0 → bounded negative size power ≡ Ok nought
unfolding bounded
bounded-zero negative size power none = rw none refl

pub bounded-low : (negative : Bool) (size : ℕ) (power : ℤ) → 0 < size → power <ℤ negsuc 17 → bounded negative size power ≡ Err TooLarge
unfolding bounded
bounded-low negative size power some low =
    let test : (size == 0) ≡ false = grind (arith, nat_tests) in
    let out : int_le (negsuc 17) power ≡ false = grind (arith, ints) in
    rw (test, out) refl

pub bounded-in : (negative : Bool) (size : ℕ) (power : ℤ) → 0 < size → negsuc 17 ≤ℤ power → power ≤ℤ pos 18 → bounded negative size power ≡ in_bounds (scaled negative size power)
unfolding bounded
bounded-in negative size power some low high =
    let test : (size == 0) ≡ false = grind (arith, nat_tests) in
    let least : int_le (negsuc 17) power ≡ true = grind (arith, ints) in
    let most : int_le power (pos 18) ≡ true = grind (arith, ints) in
    rw (test, least, most) refl

pub bounded-high : (negative : Bool) (size : ℕ) (power : ℤ) → 0 < size → pos 18 <ℤ power → bounded negative size power ≡ Err TooLarge
unfolding bounded
bounded-high negative size power some high =
    let test : (size == 0) ≡ false = grind (arith, nat_tests) in
    let least : int_le (negsuc 17) power ≡ true = grind (arith, ints) in
    let out : int_le power (pos 18) ≡ false = grind (arith, ints) in
    rw (test, least, out) refl

-- the power as a denominator, and as a factor
pub scaled-down : (negative : Bool) (size : ℕ) (power : ℤ) → power <ℤ pos 0 → scaled negative size power ≡ ratio (signed negative size) (10 ^ unsigned_abs power)
unfolding scaled
scaled-down negative size (pos power) low = absurd (omega (arith, ints))
scaled-down negative size (negsuc power) low = refl

pub scaled-up : (negative : Bool) (size : ℕ) (power : ℤ) → pos 0 ≤ℤ power → scaled negative size power ≡ ratio (signed negative (size * 10 ^ unsigned_abs power)) 1
unfolding scaled
scaled-up negative size (pos power) low = refl
scaled-up negative size (negsuc power) low = absurd (omega (arith, ints))

-- a significand of 10^37 or more
pub large-down : (negative : Bool) (size power : ℕ) → power ≤ 18 → 10 ^ 37 ≤ size → fits (ratio (signed negative size) (10 ^ power)) ≡ false
large-down negative size power few large =
    let most : 10 ^ power ≤ 10 ^ 18 = pow-le-pow_right (lit≤ tt) few in
    let is = size-signed negative size in
    lowest_terms-overflows (signed negative size) (10 ^ power) (ten_pos power) (omega arith)

pub large-up : (negative : Bool) (size power : ℕ) → 2 ^ 63 ≤ size → fits (ratio (signed negative (size * 10 ^ power)) 1) ≡ false
large-up negative size power large =
    let grown = le-mul_of_pos_right size (ten_pos power) in
    let is = size-signed negative (size * 10 ^ power) in
    lowest_terms-overflows (signed negative (size * 10 ^ power)) 1 (omega arith) (omega arith)

pub in_bounds-false : (q : Rational) → fits q ≡ false → in_bounds q ≡ Err TooLarge
in_bounds-false q out = rw out refl

by_sign : (power : ℤ) → (pos 0 ≤ℤ power) ⊎ (power <ℤ pos 0)
by_sign (pos power) = inl (omega (arith, ints))
by_sign (negsuc power) = inr (omega (arith, ints))

small : (power : ℤ) → power <ℤ pos 0 → negsuc 17 ≤ℤ power → unsigned_abs power ≤ 18
small (pos power) low least = absurd (omega (arith, ints))
small (negsuc power) low least = omega (arith, ints)

pub bounded-large : (negative : Bool) (size : ℕ) (power : ℤ) → negsuc 17 ≤ℤ power → power ≤ℤ pos 18 → 10 ^ 37 ≤ size → bounded negative size power ≡ Err TooLarge
bounded-large negative size power low high large = elim (by_sign power) [
  | inl up ↦ bounded-in negative size power (omega arith) low high ∙ ap in_bounds (scaled-up negative size power up) ∙ in_bounds-false _ (large-up negative size (unsigned_abs power) (omega arith))
  | inr down ↦ bounded-in negative size power (omega arith) low high ∙ ap in_bounds (scaled-down negative size power down) ∙ in_bounds-false _ (large-down negative size (unsigned_abs power) (small power down low) large)
]

pub end_some : (front back : List ℕ) → (length front == 0) ≡ false → false ≡ is_end (front ++ back)
end_some [] back e = cc
end_some (byte ∷ front) back e = refl

by_low : (power : ℤ) → (power <ℤ negsuc 17) ⊎ (negsuc 17 ≤ℤ power)
by_low (pos power) = inr (omega (arith, ints))
by_low (negsuc power) = elim (cases_lt 17 power) [ inl less ↦ inl (omega (arith, ints)) | inr more ↦ inr (omega (arith, ints)) ]

by_high : (power : ℤ) → (pos 18 <ℤ power) ⊎ (power ≤ℤ pos 18)
by_high (pos power) = elim (cases_lt 18 power) [ inl less ↦ inl (omega (arith, ints)) | inr more ↦ inr (omega (arith, ints)) ]
by_high (negsuc power) = inr (omega (arith, ints))

pub bounded-past : (negative : Bool) (size : ℕ) (power : ℤ) → 10 ^ 37 ≤ size → bounded negative size power ≡ Err TooLarge
bounded-past negative size power large = elim (by_low power) [
  | inl low ↦ bounded-low negative size power (omega arith) low
  | inr least ↦ elim (by_high power) [
    | inl high ↦ bounded-high negative size power (omega arith) high
    | inr most ↦ bounded-large negative size power least most large
  ]
]

-- what the significand that is held gives
pub held-bounded : (negative : Bool) (digits : List ℕ) (number count behind : ℕ) (exponent power : ℤ) → IsHeld number count digits → power ≡ exponent -ℤ pos behind +ℤ pos count → bounded negative number power ≡ bounded negative (significand digits) (exponent -ℤ pos behind +ℤ pos (end_zeros digits))
held-bounded negative digits number count behind exponent power known is =
    let held = known.zeros in
    let ends : count ≡ end_zeros digits = omega arith in
    ap₂ (λ n p. bounded negative n p) (sym known.number) (is ∙ ap (λ k. exponent -ℤ pos behind +ℤ pos k) ends)
