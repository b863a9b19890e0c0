-- Numbers as their two fields hold them, and the numbers that are made of two wide integers.
use Rattle.std.proofs.Common.{◌≡◌, ℕ, zero, suc, pred, ◌^◌, ◌<◌, ◌≤◌, ◌⊎◌, Bool, true, false, cond, ℤ, pos, negsuc, neg_ℤ, ◌-ℤ◌, ◌<ℤ◌, Some, None, Ok, Err, refl, sym, ap, ap₂, ◌∙◌, arith, to_z, of_z, SFits, w32, w64}
use Rattle.std.specs.Prelude.{unsigned_abs, FitsSigned, IsTrue}
use Rattle.std.specs.Int.{w128}
use Rattle.std.specs.Option.{ok_or}
use Rattle.std.proofs.Math.Nat.{one-dvd}
use Rattle.std.proofs.lemmas.Int.{ints, to_z-of_z, fits_signed_from_abs}
use Rattle.std.proofs.lemmas.Bool.Decides.{nat_tests}
use Rattle.exact_fraction.specs.Number.{Rational, den, ratio, whole, fits, IsLowest, IsNumber}
use Rattle.exact_fraction.specs.Operations.{negation_of}
use Rattle.exact_fraction.specs.Checked.{fitting, made, checked}
use Rattle.exact_fraction.specs.declared.error.Overflow.{Overflow}
use Rattle.exact_fraction.proofs.Sums.{sign_lowest, size-sign}

abbrev pub pair : ℤ → ℕ → Rational
pair n b = record { num = n; below = b }

-- ---- what fits
pub fits_tells : (q : Rational) → IsTrue (fits q) → (unsigned_abs q.num < 2 ^ 63) × (den q < 2 ^ 63)
unfolding fits
fits_tells q h = grind (arith, nat_tests)

pub fits_from : (q : Rational) → unsigned_abs q.num < 2 ^ 63 → den q < 2 ^ 63 → fits q ≡ true
unfolding fits
fits_from q h k = grind (arith, nat_tests)

pub fits_not : (q : Rational) → (2 ^ 63 ≤ unsigned_abs q.num) ⊎ (2 ^ 63 ≤ den q) → fits q ≡ false
unfolding fits
fits_not q h = grind (arith, nat_tests)

pub IsLowest-whole : (z : ℤ) → IsLowest (whole z)
unfolding whole den
IsLowest-whole z = record { coprime = (one-dvd (unsigned_abs z), one-dvd 1, λ d u v. v) }

-- a whole number that fits
pub IsNumber-whole : (z : ℤ) → unsigned_abs z < 2 ^ 63 → IsNumber (whole z)
unfolding whole den
IsNumber-whole z h = record { lowest = IsLowest-whole z; fitting = fits_from (whole z) h (omega arith) }

-- ---- fields
pub den-pair : (n d : ℤ) → pos 0 <ℤ d → pos (den (pair n (pred (unsigned_abs d)))) ≡ d
unfolding den
den-pair n (pos zero) h = absurd (omega (arith, ints))
den-pair n (pos (suc k)) h = refl
den-pair n (negsuc k) h = absurd (omega (arith, ints))

pub record Parts (n d : ℤ) (q : Rational) : Type 0 where
  pub num : n ≡ q.num
  pub den_is : d ≡ pos (den q)
  pub num_size : unsigned_abs n < 2 ^ 63
  pub den_size : unsigned_abs d < 2 ^ 63

pub parts_held : (n d : ℤ) (q : Rational) → pair n (pred (unsigned_abs d)) ≡ q → (pos 0 <ℤ d) × IsNumber (pair n (pred (unsigned_abs d))) → Parts n d q
parts_held n d q e h =
    let p = pair n (pred (unsigned_abs d)) in
    let t = fits_tells p h.1.fitting in
    let s = den-pair n d h.0 in
    record {
      num = ap (λ (x : Rational). x.num) e;
      den_is = sym s ∙ ap (λ (x : Rational). pos (den x)) e;
      num_size = t.0;
      den_size = rw (ap unsigned_abs (sym s)) t.1;
    }

pub narrow : (n : ℤ) → unsigned_abs n < 2 ^ 63 → to_z w64 (of_z w64 n) ≡ n
narrow n h = to_z-of_z w64 n (fits_signed_from_abs w64 n h)

pub wide : (n : ℤ) → unsigned_abs n < 2 ^ 63 → to_z w128 (of_z w128 n) ≡ n
wide n h = to_z-of_z w128 n (fits_signed_from_abs w128 n (omega arith))

pub widened : (n : ℤ) → unsigned_abs n < 2 ^ 63 → to_z w128 (of_z w128 (to_z w64 (of_z w64 n))) ≡ n
widened n h = ap (λ x. to_z w128 (of_z w128 x)) (narrow n h) ∙ wide n h

pub narrowed : (n : ℤ) → unsigned_abs n < 2 ^ 63 → to_z w64 (of_z w64 (to_z w128 (of_z w128 n))) ≡ n
narrowed n h = ap (λ x. to_z w64 (of_z w64 x)) (wide n h) ∙ narrow n h

-- a number of 32 bits at 64 bits
pub widened_32 : (n : ℤ) → SFits w32 n
    → (to_z w64 (of_z w64 (to_z w32 (of_z w32 n))) ≡ n) × (unsigned_abs n < 2 ^ 63)
widened_32 n h =
    let small : unsigned_abs n < 2 ^ 63 = omega (arith, ints) in
    (ap (λ x. to_z w64 (of_z w64 x)) (to_z-of_z w32 n h) ∙ narrow n small, small)

-- ---- signs
pub minus_is : (n : ℤ) → pos 0 -ℤ n ≡ neg_ℤ n
minus_is n = omega (arith, ints)

pub minus_fits : (n : ℤ) → unsigned_abs n < 2 ^ 63 → FitsSigned w64 (pos 0 -ℤ to_z w64 (of_z w64 n))
minus_fits n h = rw (narrow n h, minus_is n) (fits_signed_from_abs w64 (neg_ℤ n) (rw (size-sign n) h))

pub minus_passed : (n : ℤ) → unsigned_abs n < 2 ^ 63 → to_z w64 (of_z w64 (pos 0 -ℤ to_z w64 (of_z w64 n))) ≡ neg_ℤ n
minus_passed n h =
    ap (λ x. to_z w64 (of_z w64 (pos 0 -ℤ x))) (narrow n h)
    ∙ ap (λ x. to_z w64 (of_z w64 x)) (minus_is n)
    ∙ narrow (neg_ℤ n) (rw (size-sign n) h)

pub negation_is : (q : Rational) → IsNumber q → IsNumber (negation_of q)
unfolding negation_of den
negation_is q h =
    let t = fits_tells q h.fitting in
    record { lowest = sign_lowest q h.lowest; fitting = fits_from (negation_of q) (rw (size-sign q.num) t.0) t.1 }

-- ---- numbers of two wide integers
pub fitting_none : (q : Rational) → (2 ^ 63 ≤ unsigned_abs q.num) ⊎ (2 ^ 63 ≤ den q) → None ≡ fitting q
unfolding fitting
fitting_none q h = sym (ap (λ b. cond b (Some q) None) (fits_not q h))

pub fitting_some : (q : Rational) → unsigned_abs q.num < 2 ^ 63 → den q < 2 ^ 63 → Some q ≡ fitting q
unfolding fitting
fitting_some q h k = sym (ap (λ b. cond b (Some q) None) (fits_from q h k))

pub made_none : (n d : ℤ) → d <ℤ pos 1 → None ≡ made n d
unfolding made
made_none n (pos zero) h = refl
made_none n (pos (suc k)) h = absurd (omega (arith, ints))
made_none n (negsuc k) h = refl

pub made_fitting : (n d : ℤ) → pos 0 <ℤ d → made n d ≡ fitting (ratio n (unsigned_abs d))
unfolding made
made_fitting n (pos zero) h = absurd (omega (arith, ints))
made_fitting n (pos (suc k)) h = refl
made_fitting n (negsuc k) h = absurd (omega (arith, ints))

pub made_or : {E : Type 0} (q : Rational) (e : E) → ok_or (fitting q) e ≡ cond (fits q) (Ok q) (Err e)
unfolding fitting
made_or q e = by_test (fits q)
  where
    by_test : (b : Bool) → ok_or (cond b (Some q) None) e ≡ cond b (Ok q) (Err e)
    by_test true = refl
    by_test false = refl

pub made_checked : (n d : ℤ) (e : Overflow) → pos 0 <ℤ d → ok_or (made n d) e ≡ checked (ratio n (unsigned_abs d))
unfolding checked
made_checked n d e h = ap (λ x. ok_or x e) (made_fitting n d h) ∙ made_or (ratio n (unsigned_abs d)) e

-- the reduced parts, passed
pub reduced_passed : (n d x y : ℤ) → SFits w128 n → SFits w128 d → SFits w128 x → SFits w128 y → x ≡ (ratio (to_z w128 (of_z w128 n)) (unsigned_abs (to_z w128 (of_z w128 d)))).num → y ≡ pos (den (ratio (to_z w128 (of_z w128 n)) (unsigned_abs (to_z w128 (of_z w128 d))))) → (pos 0 <ℤ to_z w128 (of_z w128 y)) × (pair (to_z w128 (of_z w128 x)) (pred (unsigned_abs (to_z w128 (of_z w128 y)))) ≡ ratio n (unsigned_abs d))
unfolding den
reduced_passed n d x y a b f g h k =
    let same = ap₂ (λ m e. ratio m (unsigned_abs e)) (to_z-of_z w128 n a) (to_z-of_z w128 d b) in
    let num = to_z-of_z w128 x f ∙ h in
    let below = to_z-of_z w128 y g ∙ k in
    (rw below (omega (arith, ints)), ap₂ (λ m e. pair m (pred (unsigned_abs e))) num below ∙ same)
