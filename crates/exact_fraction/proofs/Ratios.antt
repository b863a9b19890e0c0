-- Ratios are ordered as the fractions that they reduce.
use Rattle.std.proofs.Common.{◌≡◌, ℕ, pred, ◌<◌, Bool, true, false, ℤ, pos, ◌*ℤ◌, ◌≤ℤ◌, ◌<ℤ◌, refl, sym, ap, arith, mul-le-mul_right, mul-lt-mul_of_pos_right}
use Rattle.std.specs.Prelude.{int_lt}
use Rattle.std.proofs.Math.Nat.{suc-pred-eq_of_pos}
use Rattle.std.proofs.lemmas.Int.{ints}
use Rattle.exact_fraction.specs.Number.{Rational, den, ratio}
use Rattle.exact_fraction.specs.Order.{◌≤ℚ◌, ◌<ℚ◌, ◌=ℚ◌, less}
use Rattle.exact_fraction.proofs.Ring.{at, nat, by, ring_le, ring_lt, parts_le, parts_lt}
use Rattle.exact_fraction.proofs.Lowest.{den_pos, ratio_value, IsLowest-ratio, unique}
use Rattle.exact_fraction.proofs.Orders.{le_cross, lt_le_cross, le_lt_cross, eq_cross}

same_le : (x y : ℤ) → x ≡ y → x ≤ℤ y
same_le x y e = omega (arith, ints)

-- a ratio below, above and at a fraction
pub ratio_at_most : (n : ℤ) (d : ℕ) (p : Rational) → 0 < d → (n *ℤ pos (den p)) ≤ℤ (p.num *ℤ pos d) → ratio n d ≤ℚ p
ratio_at_most n d p k h =
    let r = ratio n d in
    record { le = le_cross r.num n p.num (den r) d (den p) k (same_le _ _ (ratio_value n d k)) h }

pub ratio_at_least : (n : ℤ) (d : ℕ) (p : Rational) → 0 < d → (p.num *ℤ pos d) ≤ℤ (n *ℤ pos (den p)) → p ≤ℚ ratio n d
ratio_at_least n d p k h =
    let r = ratio n d in
    record { le = le_cross p.num n r.num (den p) d (den r) k h (same_le _ _ (sym (ratio_value n d k))) }

pub ratio_below : (n : ℤ) (d : ℕ) (p : Rational) → 0 < d → (n *ℤ pos (den p)) <ℤ (p.num *ℤ pos d) → ratio n d <ℚ p
ratio_below n d p k h =
    let r = ratio n d in
    record { lt = le_lt_cross r.num n p.num (den r) d (den p) (den_pos r) (same_le _ _ (ratio_value n d k)) h }

pub ratio_above : (n : ℤ) (d : ℕ) (p : Rational) → 0 < d → (p.num *ℤ pos d) <ℤ (n *ℤ pos (den p)) → p <ℚ ratio n d
ratio_above n d p k h =
    let r = ratio n d in
    record { lt = lt_le_cross p.num n r.num (den p) d (den r) (den_pos r) h (same_le _ _ (sym (ratio_value n d k))) }

pub ratio_same_as : (n : ℤ) (d : ℕ) (p : Rational) → 0 < d → n *ℤ pos (den p) ≡ p.num *ℤ pos d → ratio n d =ℚ p
ratio_same_as n d p k h =
    let r = ratio n d in
    record { eq = eq_cross r.num n p.num (den r) d (den p) k (ratio_value n d k) h }

-- two ratios
pub ratio_le : (n m : ℤ) (d e : ℕ) → 0 < d → 0 < e → (n *ℤ pos e) ≤ℤ (m *ℤ pos d) → ratio n d ≤ℚ ratio m e
ratio_le n m d e p q h =
    let s = ratio m e in
    ratio_at_most n d s p (le_cross n m s.num d e (den s) q h (same_le _ _ (sym (ratio_value m e q))))

pub ratio_lt : (n m : ℤ) (d e : ℕ) → 0 < d → 0 < e → (n *ℤ pos e) <ℤ (m *ℤ pos d) → ratio n d <ℚ ratio m e
ratio_lt n m d e p q h =
    let s = ratio m e in
    ratio_below n d s p (lt_le_cross n m s.num d e (den s) (den_pos s) h (same_le _ _ (sym (ratio_value m e q))))

-- equal fractions have one ratio
pub ratio_same : (n m : ℤ) (d e : ℕ) → 0 < d → 0 < e → n *ℤ pos e ≡ m *ℤ pos d → ratio n d ≡ ratio m e
ratio_same n m d e p q h =
    let s = ratio m e in
    unique (ratio n d) s (IsLowest-ratio n d p) (IsLowest-ratio m e q)
    (ratio_same_as n d s p (eq_cross n m s.num d e (den s) q h (sym (ratio_value m e q))))

-- the test of a ratio is that of the fraction that it reduces
less_ratio_same : (x y z w : ℤ) → (x <ℤ y → z <ℤ w) → (y ≤ℤ x → w ≤ℤ z) → int_lt x y ≡ int_lt z w
less_ratio_same x y z w h k = by_test (int_lt x y) refl
  where
    by_test : (t : Bool) → int_lt x y ≡ t → t ≡ int_lt z w
    by_test true e = let below = h (omega (arith, ints, e)) in omega (arith, ints, below)
    by_test false e = let least = k (omega (arith, ints, e)) in omega (arith, ints, least)

pub ratio_less_left : (n : ℤ) (d : ℕ) (q : Rational) → 0 < d → less (ratio n d) q ≡ int_lt (n *ℤ pos (den q)) (q.num *ℤ pos d)
unfolding less
ratio_less_left n d q p =
    let r = ratio n d in
    let value = ratio_value n d p in
    less_ratio_same (r.num *ℤ pos (den q)) (q.num *ℤ pos (den r)) (n *ℤ pos (den q)) (q.num *ℤ pos d)
    (λ h. le_lt_cross n r.num q.num d (den r) (den q) p (same_le _ _ (sym value)) h)
    (λ h. le_cross q.num r.num n (den q) (den r) d (den_pos r) h (same_le _ _ value))

pub ratio_less_right : (n : ℤ) (d : ℕ) (q : Rational) → 0 < d → less q (ratio n d) ≡ int_lt (q.num *ℤ pos d) (n *ℤ pos (den q))
unfolding less
ratio_less_right n d q p =
    let r = ratio n d in
    let value = ratio_value n d p in
    less_ratio_same (q.num *ℤ pos (den r)) (r.num *ℤ pos (den q)) (q.num *ℤ pos d) (n *ℤ pos (den q))
    (λ h. lt_le_cross q.num r.num n (den q) (den r) d p h (same_le _ _ value))
    (λ h. le_cross n r.num q.num d (den r) (den q) (den_pos r) (same_le _ _ (sym value)) h)

-- ratios of one denominator
pub numerators_at_most : (n m : ℤ) (d : ℕ) → 0 < d → n ≤ℤ m → ratio n d ≤ℚ ratio m d
numerators_at_most n m d p h =
    ratio_le n m d d p p (ring_le (by (at n) (nat d)) (by (at m) (nat d)) (omega (arith, mul-le-mul_right d (parts_le (at n) (at m) h))))

pub numerators_below : (n m : ℤ) (d : ℕ) → 0 < d → n <ℤ m → ratio n d <ℚ ratio m d
numerators_below n m d p h =
    ratio_lt n m d d p p (ring_lt (by (at n) (nat d)) (by (at m) (nat d)) (omega (arith, mul-lt-mul_of_pos_right {k = d} (parts_lt (at n) (at m) h) p)))

-- a ratio and its two numbers are the same number
pub ratio_same_pair : (n : ℤ) (d : ℕ) → 0 < d → ratio n d =ℚ record { num = n; below = pred d }
unfolding den
ratio_same_pair n d p =
    ratio_same_as n d (record { num = n; below = pred d }) p (ap (λ x. n *ℤ pos x) (suc-pred-eq_of_pos p))
