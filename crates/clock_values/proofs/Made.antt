-- Numbers that are made of seconds, and the quotients of steps.
use Rattle.std.proofs.Common.{◌≡◌, ℕ, zero, suc, ◌*◌, ◌^◌, ◌<◌, ◌≤◌}
use Rattle.std.proofs.Common.{ℤ, pos, negsuc, ◌*ℤ◌, ◌≤ℤ◌, ◌<ℤ◌, Some, Ok, refl, subst, ◌∙◌, arith}
use Rattle.std.proofs.Common.{false, ⊎_elim, ap, mul-le-mul, mul-pos, to_z, of_z, w32, w64}
use Rattle.std.specs.Int.{w128}
use Rattle.std.proofs.lemmas.Bool.Decides.{nat_tests}
use Rattle.std.specs.Prelude.{unsigned_abs, IsTrue}
use Rattle.std.proofs.lemmas.Int.{ints, to_z-of_z, fits_signed_from_abs}
use Rattle.std.proofs.lemmas.Nat.Gcd.{le_of_dvd, dvd_of_mod-eq-zero}
use Rattle.exact_fraction.specs.Number.{Rational, den, ratio, whole, fits, IsNumber}
use Rattle.exact_fraction.specs.Number.{zero as nought}
use Rattle.exact_fraction.specs.Operations.{quotient_of, quotient_parts}
use Rattle.exact_fraction.specs.Order.{◌<ℚ◌}
use Rattle.exact_fraction.specs.Checked.{made, fitting, checked, is_zero}
use Rattle.exact_fraction.proofs.PublicLaws.{lowest_terms-fits, lowest_terms-itself}
use Rattle.exact_fraction.proofs.PublicLaws.{lowest_terms-of_whole, lowest_terms-positive, ratios-below}
use Rattle.rule_types.specs.WellFormed.{IsRoutingStep}
use Rattle.rule_types.specs.Fitting.{IsStep, IsRowStep}
use Rattle.rule_meaning.specs.Clock.{hours_of}

-- ---- whole seconds
pub made_ratio : (n : ℤ) (d : ℕ) → 0 < d → unsigned_abs n < 2 ^ 63 → d < 2 ^ 63
    → made n (pos d) ≡ Some (ratio n d)
unfolding made fitting
made_ratio n zero p small below = absurd (omega arith)
made_ratio n (suc d) p small below = rw (lowest_terms-fits n (suc d) p small below) refl

pub whole_is : (n : ℤ) → ratio n 1 ≡ whole n
unfolding whole den
whole_is n = lowest_terms-itself (whole n) (lowest_terms-of_whole n)

pub made_hours : (n : ℤ) → unsigned_abs n < 2 ^ 63 → made n (pos 3600) ≡ Some (hours_of n)
unfolding hours_of
made_hours n small = made_ratio n 3600 (omega arith) small (omega arith)

pub made_whole : (n : ℤ) → unsigned_abs n < 2 ^ 63 → made n (pos 1) ≡ Some (whole n)
made_whole n small = made_ratio n 1 (omega arith) small (omega arith) ∙ ap Some (whole_is n)

-- ---- the size of a step in seconds
pub record StepSize (s : Rational) : Type 0 where
  pub size : ℕ
  pub num : s.num ≡ pos size
  pub above : 0 < size
  pub most : size ≤ 86400000000000
  pub below : den s ≤ 1000000000

routing_size : (s : Rational) (n : ℤ) → s.num ≡ n → IsRoutingStep s → den s ≤ 1000000000 → StepSize s
unfolding whole den
routing_size s (pos a) e h k =
    let above : (pos 0 *ℤ pos (den s)) <ℤ (pos a *ℤ pos 1) = subst (λ n. (pos 0 *ℤ pos (den s)) <ℤ (n *ℤ pos 1)) e h.positive.lt in
    let most : (pos a *ℤ pos 1) ≤ℤ (pos 86400 *ℤ pos (den s)) = subst (λ n. (n *ℤ pos 1) ≤ℤ (pos 86400 *ℤ pos (den s))) e h.most.le in
    record { size = a; num = e; above = omega (arith, ints); most = omega (arith, ints); below = k }
routing_size s (negsuc a) e h k =
    let above : (pos 0 *ℤ pos (den s)) <ℤ (negsuc a *ℤ pos 1) = subst (λ n. (pos 0 *ℤ pos (den s)) <ℤ (n *ℤ pos 1)) e h.positive.lt in
    absurd (omega (arith, ints))

row_size : (s : Rational) (n : ℤ) → s.num ≡ n → IsRowStep s → StepSize s
unfolding whole den
row_size s (pos a) e h =
    let least : (pos 1 *ℤ pos (den s)) ≤ℤ (pos a *ℤ pos 1) = subst (λ n. (pos 1 *ℤ pos (den s)) ≤ℤ (n *ℤ pos 1)) e h.least.le in
    let most : (pos a *ℤ pos 1) ≤ℤ (pos 315537897599 *ℤ pos (den s)) = subst (λ n. (n *ℤ pos 1) ≤ℤ (pos 315537897599 *ℤ pos (den s))) e h.most.le in
    record { size = a; num = e; above = omega (arith, ints, h.seconds); most = omega (arith, ints, h.seconds); below = omega (arith, h.seconds) }
row_size s (negsuc a) e h =
    let least : (pos 1 *ℤ pos (den s)) ≤ℤ (negsuc a *ℤ pos 1) = subst (λ n. (pos 1 *ℤ pos (den s)) ≤ℤ (n *ℤ pos 1)) e h.least.le in
    absurd (omega (arith, ints, h.seconds))

pub step_size : (s : Rational) → IsStep s → StepSize s
unfolding IsStep
step_size s h =
    ⊎_elim
    (λ (r : IsRoutingStep s). routing_size s s.num refl r (le_of_dvd (omega arith) (dvd_of_mod-eq-zero (den s) r.exact.divides)))
    (λ (r : IsRowStep s). row_size s s.num refl r)
    h

-- ---- a step divided by a small number
pub parts_are : (s : Rational) (m : ℕ) → 0 < m → quotient_of s (whole (pos m)) ≡ ratio (s.num *ℤ pos 1) (den s * m)
unfolding quotient_of quotient_parts whole den
parts_are s zero p = absurd (omega arith)
parts_are s (suc m) p = refl

pub step_fits : (s : Rational) (m : ℕ) → IsStep s → 0 < m → m ≤ 3600 → IsTrue (fits (quotient_of s (whole (pos m))))
step_fits s m h p small =
    let size = step_size s h in
    let some = lowest_terms-positive s in
    let grown : den s * m ≤ 1000000000 * 3600 = mul-le-mul size.below small in
    let few : unsigned_abs (s.num *ℤ pos 1) < 2 ^ 63 = rw size.num (omega (arith, ints, size.most)) in
    rw (parts_are s m p)
    (lowest_terms-fits (s.num *ℤ pos 1) (den s * m) (mul-pos some p) few (omega arith))

pub step_divides : (s : Rational) (m : ℕ) → IsStep s → 0 < m → m ≤ 3600
    → checked (quotient_of s (whole (pos m))) ≡ Ok (quotient_of s (whole (pos m)))
unfolding checked
step_divides s m h p small = rw (step_fits s m h p small) refl

pub not_zero : (m : ℕ) → 0 < m → is_zero (whole (pos m)) ≡ false
unfolding is_zero whole
not_zero m p = grind (arith, nat_tests)

pub fits_checked : (q : Rational) → IsTrue (fits q) → checked q ≡ Ok q
unfolding checked
fits_checked q h = rw h refl

pub den_small : (q : Rational) → IsNumber q → den q < 2 ^ 63
unfolding fits
den_small q h = let known = h.fitting in grind (arith, nat_tests)

-- ---- numbers that are passed
pub passed_wide : (n : ℤ) → unsigned_abs n < 2 ^ 63 → to_z w128 (of_z w128 (to_z w64 (of_z w64 n))) ≡ n
passed_wide n h =
    ap (λ x. to_z w128 (of_z w128 x)) (to_z-of_z w64 n (fits_signed_from_abs w64 n h))
    ∙ to_z-of_z w128 n (fits_signed_from_abs w128 n (omega arith))

pub passed_narrow : (n : ℤ) → unsigned_abs n < 2 ^ 31 → to_z w32 (of_z w32 (to_z w64 (of_z w64 n))) ≡ n
passed_narrow n h =
    ap (λ x. to_z w32 (of_z w32 x)) (to_z-of_z w64 n (fits_signed_from_abs w64 n (omega arith)))
    ∙ to_z-of_z w32 n (fits_signed_from_abs w32 n h)

pub step_above : (s : Rational) (m : ℕ) → IsStep s → 0 < m → nought <ℚ quotient_of s (whole (pos m))
step_above s m h p =
    let size = step_size s h in
    let some = lowest_terms-positive s in
    let over = mul-pos some p in
    let cross : (pos 0 *ℤ pos (den s * m)) <ℤ ((s.num *ℤ pos 1) *ℤ pos 1) = rw size.num (omega (arith, ints, size.above)) in
    let below : ratio (pos 0) 1 <ℚ ratio (s.num *ℤ pos 1) (den s * m) =
    ratios-below (pos 0) (s.num *ℤ pos 1) 1 (den s * m) (omega arith) over cross in
    rw (parts_are s m p) (subst (λ x. x <ℚ ratio (s.num *ℤ pos 1) (den s * m)) (whole_is (pos 0)) below)
