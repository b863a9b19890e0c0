-- The tests of the order depend on the number alone, not on the fraction that is written for it.
use Rattle.std.proofs.Common.{◌≡◌, Bool, true, false, not, ◌&&◌}
use Rattle.std.proofs.Common.{refl, sym, ◌∙◌}
use Rattle.exact_fraction.specs.Number.{Rational, zero}
use Rattle.exact_fraction.specs.Order.{◌<ℚ◌, ◌=ℚ◌, less, same}
use Rattle.exact_fraction.specs.Checked.{is_zero}
use Rattle.exact_fraction.proofs.Orders.{less_true, less_false, true_less, same_true}
use Rattle.exact_fraction.proofs.Orders.{true_same, =ℚ-at_most, =ℚ-at_least, =ℚ_sym, =ℚ_trans}
use Rattle.exact_fraction.proofs.Orders.{≤ℚ_antisymm, <ℚ-≤ℚ_trans, ≤ℚ-<ℚ_trans, ≤ℚ_apart}
use Rattle.exact_fraction.proofs.Products.{zero_true}

-- two tests, each of which is true where the other is
both_ways : (b c : Bool) → (b ≡ true → c ≡ true) → (c ≡ true → b ≡ true) → b ≡ c
both_ways true true h k = refl
both_ways true false h k = sym (h refl)
both_ways false true h k = k refl
both_ways false false h k = refl

less_left : (p q r : Rational) → p =ℚ q → less p r ≡ less q r
less_left p q r h =
    both_ways (less p r) (less q r)
    (λ e. true_less q r (≤ℚ-<ℚ_trans q p r (=ℚ-at_least p q h) (less_true p r e)))
    (λ e. true_less p r (≤ℚ-<ℚ_trans p q r (=ℚ-at_most p q h) (less_true q r e)))

less_right : (p q r : Rational) → p =ℚ q → less r p ≡ less r q
less_right p q r h =
    both_ways (less r p) (less r q)
    (λ e. true_less r q (<ℚ-≤ℚ_trans r p q (less_true r p e) (=ℚ-at_most p q h)))
    (λ e. true_less r p (<ℚ-≤ℚ_trans r q p (less_true r q e) (=ℚ-at_least p q h)))

pub less_of_same : (p q r : Rational) → p =ℚ q → (less p r ≡ less q r) × (less r p ≡ less r q)
less_of_same p q r h = (less_left p q r h, less_right p q r h)

pub same_of_same : (p q r : Rational) → p =ℚ q → (same p r ≡ same q r) × (same r p ≡ same r q)
same_of_same p q r h = (
  both_ways (same p r) (same q r)
      (λ e. true_same q r (=ℚ_trans q p r (=ℚ_sym p q h) (same_true p r e)))
      (λ e. true_same p r (=ℚ_trans p q r h (same_true q r e))),
  both_ways (same r p) (same r q)
      (λ e. true_same r q (=ℚ_trans r p q (same_true r p e) h))
      (λ e. true_same r p (=ℚ_trans r q p (same_true r q e) (=ℚ_sym p q h))),
)

pub same_by_less : (p q : Rational) → same p q ≡ (not (less p q) && not (less q p))
same_by_less p q = by_tests (same p q) (less p q) (less q p) refl refl refl
  where
    by_tests : (s a b : Bool) → same p q ≡ s → less p q ≡ a → less q p ≡ b → s ≡ (not a && not b)
    by_tests true true b e f g = absurd (≤ℚ_apart q p (=ℚ-at_least p q (same_true p q e)) (less_true p q f))
    by_tests true false true e f g = absurd (≤ℚ_apart p q (=ℚ-at_most p q (same_true p q e)) (less_true q p g))
    by_tests true false false e f g = refl
    by_tests false true b e f g = refl
    by_tests false false true e f g = refl
    by_tests false false false e f g = sym e ∙ true_same p q (≤ℚ_antisymm p q (less_false q p g) (less_false p q f))

-- a number above or below 0 is not 0
not_zero : (q : Rational) → ¬ (q =ℚ zero) → is_zero q ≡ false
not_zero q h = by_test (is_zero q) refl
  where
    by_test : (t : Bool) → is_zero q ≡ t → t ≡ false
    by_test true e = absurd (h (zero_true q e))
    by_test false e = refl

pub above_not_zero : (q : Rational) → zero <ℚ q → is_zero q ≡ false
above_not_zero q h = not_zero q (λ e. ≤ℚ_apart q zero (=ℚ-at_most q zero e) h)

pub below_not_zero : (q : Rational) → q <ℚ zero → is_zero q ≡ false
below_not_zero q h = not_zero q (λ e. ≤ℚ_apart zero q (=ℚ-at_least q zero e) h)
