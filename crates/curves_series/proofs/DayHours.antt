-- The hours of a time of a day fit.
use Rattle.std.proofs.Common.{◌≡◌, ℕ, suc, ◌*◌, ◌%◌, ◌^◌, ◌<◌, ◌≤◌, Result, Ok, ℤ, pos, negsuc, ◌*ℤ◌, ◌+ℤ◌, ◌≤ℤ◌, neg_ℤ, refl, ap, ◌∙◌, arith, mod-eq_of_lt, inl, inr}
use Rattle.std.specs.Prelude.{IsTrue, unsigned_abs, ◌||◌, ◌==◌}
use Rattle.std.proofs.Math.Nat.{mul-le-mul}
use Rattle.std.proofs.lemmas.Bool.{cases_lt}
use Rattle.std.proofs.lemmas.Bool.Decides.{nat_tests}
use Rattle.std.proofs.lemmas.Int.{ints, to_z-of_z}
use Rattle.std.proofs.Common.{w32, to_z, of_z}
use Rattle.exact_fraction.specs.Number.{Rational, den, whole, fits}
use Rattle.exact_fraction.specs.Operations.{sum_of}
use Rattle.exact_fraction.specs.Checked.{checked}
use Rattle.exact_fraction.specs.declared.error.Overflow.{Overflow}
use Rattle.exact_fraction.proofs.PublicLaws.{lowest_terms-positive, common_denominators-sum_fits}
use Rattle.num_text.specs.Times.{IsReadTime}
use Rattle.curves_series.specs.Series.{IsDay, hours_of_day}

-- a divisor of 10^9 or of 3,600 is at most 10^9
most_den : (d : ℕ) → IsTrue (1_000_000_000 % d == 0 || 3_600 % d == 0) → d ≤ 1_000_000_000
most_den d h = elim (cases_lt 1_000_000_000 d) [
  | inl above ↦ (
      let one : 1_000_000_000 % d ≡ 1_000_000_000 = mod-eq_of_lt above in
      let two : 3_600 % d ≡ 3_600 = mod-eq_of_lt (omega (arith, above)) in
      absurd (grind (arith, nat_tests)))
  | inr within ↦ omega (arith, within)
]

size : (z num : ℤ) (d : ℕ) → neg_ℤ (pos 70_389_504) ≤ℤ z → z ≤ℤ pos 70_389_504 → d ≤ 1_000_000_000 → pos 0 ≤ℤ num → num ≤ℤ pos (1_000_000 * d) → unsigned_abs (z *ℤ pos d +ℤ num *ℤ pos 1) < 2 ^ 63
size (pos n) (pos m) d low high k least most =
    let few : n * d ≤ 70_389_504 * 1_000_000_000 = mul-le-mul {n₁ = n} {m₁ = d} {n₂ = 70_389_504} {m₂ = 1_000_000_000} (omega (arith, ints, high)) k in
    omega (arith, ints, few, most, k)
size (negsuc n) (pos m) d low high k least most =
    let few : suc n * d ≤ 70_389_504 * 1_000_000_000 = mul-le-mul {n₁ = suc n} {m₁ = d} {n₂ = 70_389_504} {m₂ = 1_000_000_000} (omega (arith, ints, low)) k in
    omega (arith, ints, few, most, k)
size z (negsuc m) d low high k least most = absurd (omega (arith, ints, least))

hours_fit : (day : ℤ) (hours : Rational) → IsDay day → IsReadTime hours → IsTrue (fits (hours_of_day day hours))
unfolding hours_of_day den whole
hours_fit day hours h time =
    let d = den hours in
    let k = most_den d time.exact in
    common_denominators-sum_fits (whole (pos 24 *ℤ day)) hours 1 d d (lowest_terms-positive hours) (omega arith) (omega arith) (size (pos 24 *ℤ day) hours.num d (omega (arith, ints, h.0)) (omega (arith, ints, h.1)) k (omega (arith, ints, time.least.le)) (omega (arith, ints, time.most.le))) (omega (arith, k))

by_fits : (q : Rational) (r : Result Rational Overflow) → IsTrue (fits q) → r ≡ checked q → r ≡ Ok q
unfolding checked
by_fits q r h e = e ∙ rw h refl

-- so the sum is not refused
pub hours_added : (day : ℤ) (hours : Rational) (r : Result Rational Overflow) → IsDay day → IsReadTime hours → r ≡ checked (sum_of (whole (pos 24 *ℤ day)) hours) → r ≡ Ok (hours_of_day day hours)
unfolding hours_of_day
hours_added day hours r h time e = by_fits (sum_of (whole (pos 24 *ℤ day)) hours) r (hours_fit day hours h time) e

pub own_day : (day : ℤ) → IsDay day → to_z w32 (of_z w32 day) ≡ day
own_day day h = to_z-of_z w32 day (omega (arith, ints, h.0, h.1))

-- as the code passes the hours of the day
pub passed : (day : ℤ) → IsDay day → to_z w32 (of_z w32 (pos 24 *ℤ to_z w32 (of_z w32 day))) ≡ pos 24 *ℤ day
passed day h =
    ap (λ d. to_z w32 (of_z w32 (pos 24 *ℤ d))) (own_day day h) ∙ to_z-of_z w32 (pos 24 *ℤ day) (omega (arith, ints, h.0, h.1))
