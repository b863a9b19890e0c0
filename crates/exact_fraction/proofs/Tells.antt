-- What each test of the order, and each checked answer, tells.
use Rattle.std.proofs.Common.{◌≡◌, ◌⊎◌, Bool, true, false, cond, Some, None, Result, Ok, Err, refl, sym, ◌∙◌, inl, inr}
use Rattle.std.proofs.lemmas.Bool.{false≢true}
use Rattle.exact_fraction.specs.Number.{Rational, fits}
use Rattle.exact_fraction.specs.Order.{◌≤ℚ◌, ◌<ℚ◌, ◌=ℚ◌, less, same}
use Rattle.exact_fraction.specs.Operations.{quotient_of}
use Rattle.exact_fraction.specs.Checked.{fitting, checked, is_zero, checked_quotient}
use Rattle.exact_fraction.specs.declared.error.Overflow.{Overflow}
use Rattle.exact_fraction.specs.declared.error.DivFault.TheVariants as fault
use Rattle.exact_fraction.proofs.Orders.{less_true, less_false, same_true, true_same}
use Rattle.exact_fraction.proofs.Answered.{eq_compares, ne_compares, lt_compares, le_compares, gt_compares, ge_compares}

pub less_tells : (p q : Rational) → ((less p q ≡ true) × (p <ℚ q)) ⊎ ((less p q ≡ false) × (q ≤ℚ p))
less_tells p q = by_test (less p q) refl
  where
    by_test : (t : Bool) → less p q ≡ t → ((t ≡ true) × (p <ℚ q)) ⊎ ((t ≡ false) × (q ≤ℚ p))
    by_test true e = inl (refl, less_true p q e)
    by_test false e = inr (refl, less_false p q e)

pub same_tells : (p q : Rational) → ((same p q ≡ true) × (p =ℚ q)) ⊎ ((same p q ≡ false) × ¬ (p =ℚ q))
same_tells p q = by_test (same p q) refl
  where
    by_test : (t : Bool) → same p q ≡ t → ((t ≡ true) × (p =ℚ q)) ⊎ ((t ≡ false) × ¬ (p =ℚ q))
    by_test true e = inl (refl, same_true p q e)
    by_test false e = inr (refl, λ h. absurd (false≢true (sym e ∙ true_same p q h)))

pub fitting_tells : (q : Rational) → ((fits q ≡ true) × (fitting q ≡ Some q)) ⊎ ((fits q ≡ false) × (fitting q ≡ None))
unfolding fitting
fitting_tells q = by_test (fits q)
  where
    by_test : (t : Bool) → ((t ≡ true) × (cond t (Some q) None ≡ Some q)) ⊎ ((t ≡ false) × (cond t (Some q) None ≡ None))
    by_test true = inl (refl, refl)
    by_test false = inr (refl, refl)

pub checked_tells : (q : Rational) → ((fits q ≡ true) × (checked q ≡ Ok q)) ⊎ ((fits q ≡ false) × (checked q ≡ Err (record {})))
unfolding checked
checked_tells q = by_test (fits q)
  where
    by_test : (t : Bool) → ((t ≡ true) × (cond {A = Result Rational Overflow} t (Ok q) (Err (record {})) ≡ Ok q)) ⊎ ((t ≡ false) × (cond {A = Result Rational Overflow} t (Ok q) (Err (record {})) ≡ Err (record {})))
    by_test true = inl (refl, refl)
    by_test false = inr (refl, refl)

pub quotient_tells : (p q : Rational) → ((is_zero q ≡ true) × (checked_quotient p q ≡ Err fault.Zero)) ⊎ ((is_zero q ≡ false) × (fits (quotient_of p q) ≡ true) × (checked_quotient p q ≡ Ok (quotient_of p q))) ⊎ ((is_zero q ≡ false) × (fits (quotient_of p q) ≡ false) × (checked_quotient p q ≡ Err fault.Overflow))
unfolding checked_quotient
quotient_tells p q = by_tests (is_zero q) (fits (quotient_of p q))
  where
    by_tests : (z t : Bool) → ((z ≡ true) × (cond z (Err fault.Zero) (cond t (Ok (quotient_of p q)) (Err fault.Overflow)) ≡ Err fault.Zero)) ⊎ ((z ≡ false) × (t ≡ true) × (cond z (Err fault.Zero) (cond t (Ok (quotient_of p q)) (Err fault.Overflow)) ≡ Ok (quotient_of p q))) ⊎ ((z ≡ false) × (t ≡ false) × (cond z (Err fault.Zero) (cond t (Ok (quotient_of p q)) (Err fault.Overflow)) ≡ Err fault.Overflow))
    by_tests true t = inl (refl, refl)
    by_tests false true = inr (inl (refl, refl, refl))
    by_tests false false = inr (inr (refl, refl, refl))

-- the tests, and the order that they test
pub ruleset order_tests = (less_tells, same_tells, eq_compares, ne_compares, lt_compares, le_compares, gt_compares, ge_compares)

-- the answers of a quotient, checked with and without a test of the divisor
pub ruleset quotient_tests = (checked_tells, quotient_tells)
