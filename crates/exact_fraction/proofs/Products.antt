-- Products, quotients and the order.
use Rattle.std.proofs.Common.{◌≡◌, ℕ, suc, ◌*◌, ◌==◌, true, eqb-true, ◌<◌, ℤ, pos, negsuc, neg_ℤ, ◌*ℤ◌, ◌≤ℤ◌, ◌<ℤ◌, refl, ap, ap₂, ◌∙◌, arith, mul-le-mul_right, mul-lt-mul_of_pos_right, mul-pos, mul_comm}
use Rattle.std.proofs.Common.{zero as nothing}
use Rattle.std.specs.Prelude.{unsigned_abs}
use Rattle.std.proofs.lemmas.Int.{ints}
use Rattle.exact_fraction.specs.Number.{Rational, den, ratio, zero, one, whole}
use Rattle.exact_fraction.specs.Order.{◌≤ℚ◌, ◌<ℚ◌, ◌=ℚ◌}
use Rattle.exact_fraction.specs.Checked.{is_zero}
use Rattle.exact_fraction.specs.Operations.{product_of, quotient_of, quotient_parts}
use Rattle.exact_fraction.proofs.Ring.{at, nat, by, minus, ring, ring_le, ring_lt, parts_le, parts_lt}
use Rattle.exact_fraction.proofs.Lowest.{den_pos, ratio_value}
use Rattle.exact_fraction.proofs.Ratios.{ratio_le, ratio_lt, ratio_same, ratio_same_as}
use Rattle.exact_fraction.proofs.Sums.{dens_pos}

-- ---- a number and 0
pub num_at_least : (r : Rational) → zero ≤ℚ r → pos 0 ≤ℤ r.num
unfolding whole den
num_at_least r h = omega (arith, ints, h.le)

pub num_above : (r : Rational) → zero <ℚ r → pos 0 <ℤ r.num
unfolding whole den
num_above r h = omega (arith, ints, h.lt)

pub num_at_most : (r : Rational) → r ≤ℚ zero → r.num ≤ℤ pos 0
unfolding whole den
num_at_most r h = omega (arith, ints, h.le)

pub num_below : (r : Rational) → r <ℚ zero → r.num <ℤ pos 0
unfolding whole den
num_below r h = omega (arith, ints, h.lt)

-- the test of 0
zero_size : (n : ℤ) → unsigned_abs n ≡ 0 → n ≡ pos 0
zero_size (pos n) e = ap pos e
zero_size (negsuc n) e = absurd (omega arith)

pub zero_true : (q : Rational) → is_zero q ≡ true → q =ℚ zero
unfolding is_zero whole den
zero_true q e = record { eq = omega (arith, ints, zero_size q.num (eqb-true (unsigned_abs q.num) 0 e)) }

pub true_zero : (q : Rational) → q =ℚ zero → is_zero q ≡ true
unfolding is_zero whole den
true_zero q h =
    let e : q.num ≡ pos 0 = omega (arith, ints, h.eq) in
    ap (λ n. unsigned_abs n == 0) e

pub product_commutes : (p q : Rational) → product_of p q ≡ product_of q p
unfolding product_of
product_commutes p q = ap₂ ratio (ring (by (at p.num) (at q.num)) (by (at q.num) (at p.num)) (omega arith)) (mul_comm (den p) (den q))

-- ---- a/b and c/d by e/f
product_le : (a c e : ℤ) (b d f : ℕ) → pos 0 ≤ℤ e → (a *ℤ pos d) ≤ℤ (c *ℤ pos b) → ((a *ℤ e) *ℤ pos (d * f)) ≤ℤ ((c *ℤ e) *ℤ pos (b * f))
product_le a c (pos n) b d f p h =
    let x = mul-le-mul_right (n * f) (parts_le (by (at a) (nat d)) (by (at c) (nat b)) h) in
    ring_le (by (by (at a) (nat n)) (nat (d * f))) (by (by (at c) (nat n)) (nat (b * f))) (omega arith)
product_le a c (negsuc n) b d f p h = absurd (omega (arith, ints))

product_lt : (a c e : ℤ) (b d f : ℕ) → 0 < f → pos 0 <ℤ e → (a *ℤ pos d) <ℤ (c *ℤ pos b) → ((a *ℤ e) *ℤ pos (d * f)) <ℤ ((c *ℤ e) *ℤ pos (b * f))
product_lt a c (pos n) b d f q p h =
    let n_pos : 0 < n = omega (arith, ints) in
    let x = mul-lt-mul_of_pos_right {k = n * f} (parts_lt (by (at a) (nat d)) (by (at c) (nat b)) h) (mul-pos n_pos q) in
    ring_lt (by (by (at a) (nat n)) (nat (d * f))) (by (by (at c) (nat n)) (nat (b * f))) (omega arith)
product_lt a c (negsuc n) b d f q p h = absurd (omega (arith, ints))

turned_le : (a c e : ℤ) (b d f : ℕ) → e ≤ℤ pos 0 → (a *ℤ pos d) ≤ℤ (c *ℤ pos b) → ((c *ℤ e) *ℤ pos (b * f)) ≤ℤ ((a *ℤ e) *ℤ pos (d * f))
turned_le a c (pos n) b d f p h =
    let n_zero : n ≡ 0 = omega (arith, ints) in
    ring_le (by (by (at c) (nat n)) (nat (b * f))) (by (by (at a) (nat n)) (nat (d * f))) (rw n_zero (omega arith))
turned_le a c (negsuc n) b d f p h =
    let x = mul-le-mul_right (suc n * f) (parts_le (by (at a) (nat d)) (by (at c) (nat b)) h) in
    ring_le (by (by (at c) (at (negsuc n))) (nat (b * f))) (by (by (at a) (at (negsuc n))) (nat (d * f))) (omega arith)

turned_lt : (a c e : ℤ) (b d f : ℕ) → 0 < f → e <ℤ pos 0 → (a *ℤ pos d) <ℤ (c *ℤ pos b) → ((c *ℤ e) *ℤ pos (b * f)) <ℤ ((a *ℤ e) *ℤ pos (d * f))
turned_lt a c (pos n) b d f q p h = absurd (omega (arith, ints))
turned_lt a c (negsuc n) b d f q p h =
    let n_pos : 0 < suc n = omega arith in
    let x = mul-lt-mul_of_pos_right {k = suc n * f} (parts_lt (by (at a) (nat d)) (by (at c) (nat b)) h) (mul-pos n_pos q) in
    ring_lt (by (by (at c) (at (negsuc n))) (nat (b * f))) (by (by (at a) (at (negsuc n))) (nat (d * f))) (omega arith)

pub product_at_most : (p q r : Rational) → zero ≤ℚ r → p ≤ℚ q → product_of p r ≤ℚ product_of q r
unfolding product_of
product_at_most p q r s h =
    ratio_le _ _ (den p * den r) (den q * den r) (dens_pos p r) (dens_pos q r) (product_le p.num q.num r.num (den p) (den q) (den r) (num_at_least r s) h.le)

pub product_below : (p q r : Rational) → zero <ℚ r → p <ℚ q → product_of p r <ℚ product_of q r
unfolding product_of
product_below p q r s h =
    ratio_lt _ _ (den p * den r) (den q * den r) (dens_pos p r) (dens_pos q r) (product_lt p.num q.num r.num (den p) (den q) (den r) (den_pos r) (num_above r s) h.lt)

pub product_turned_at_most : (p q r : Rational) → r ≤ℚ zero → p ≤ℚ q → product_of q r ≤ℚ product_of p r
unfolding product_of
product_turned_at_most p q r s h =
    ratio_le _ _ (den q * den r) (den p * den r) (dens_pos q r) (dens_pos p r) (turned_le p.num q.num r.num (den p) (den q) (den r) (num_at_most r s) h.le)

pub product_turned_below : (p q r : Rational) → r <ℚ zero → p <ℚ q → product_of q r <ℚ product_of p r
unfolding product_of
product_turned_below p q r s h =
    ratio_lt _ _ (den q * den r) (den p * den r) (dens_pos q r) (dens_pos p r) (turned_lt p.num q.num r.num (den p) (den q) (den r) (den_pos r) (num_below r s) h.lt)

product_eq : (a c e : ℤ) (b d f : ℕ) → a *ℤ pos d ≡ c *ℤ pos b → (a *ℤ e) *ℤ pos (d * f) ≡ (c *ℤ e) *ℤ pos (b * f)
product_eq a c e b d f h =
    ring (by (by (at a) (at e)) (nat (d * f))) (by (by (at a) (nat d)) (by (at e) (nat f))) (omega arith)
    ∙ ap (λ x. x *ℤ (e *ℤ pos f)) h
    ∙ ring (by (by (at c) (nat b)) (by (at e) (nat f))) (by (by (at c) (at e)) (nat (b * f))) (omega arith)

pub product_of_same : (p q r : Rational) → p =ℚ q → product_of p r ≡ product_of q r
unfolding product_of
product_of_same p q r h =
    ratio_same _ _ (den p * den r) (den q * den r) (dens_pos p r) (dens_pos q r) (product_eq p.num q.num r.num (den p) (den q) (den r) h.eq)

pub product_one : (p : Rational) → product_of p one =ℚ p
unfolding product_of whole den
product_one p =
    ratio_same_as (p.num *ℤ pos 1) (den p * 1) p (omega (arith, den_pos p))
    (ring (by (by (at p.num) (nat 1)) (nat (den p))) (by (at p.num) (nat (den p * 1))) (omega arith))

-- ---- quotients
positive : (b m : ℕ) → 0 < b → 0 < b * suc m
positive b m p = mul-pos p (omega arith)

-- x is (a/b) / (e/f): then x * (e/f) is a/b
quotient_back : (e a : ℤ) (b f : ℕ) → 0 < b → ¬ (e ≡ pos 0) → (quotient_parts a b e f).num *ℤ e *ℤ pos b ≡ a *ℤ pos (den (quotient_parts a b e f) * f)
unfolding quotient_parts
quotient_back (pos nothing) a b f p h = absurd (h refl)
quotient_back (pos (suc m)) a b f p h =
    let x = ratio (a *ℤ pos f) (b * suc m) in
    ring (by (by (at x.num) (nat (suc m))) (nat b)) (by (at x.num) (nat (b * suc m))) (omega arith)
    ∙ ratio_value (a *ℤ pos f) (b * suc m) (positive b m p)
    ∙ ring (by (by (at a) (nat f)) (nat (den x))) (by (at a) (nat (den x * f))) (omega arith)
quotient_back (negsuc m) a b f p h =
    let x = ratio (neg_ℤ (a *ℤ pos f)) (b * suc m) in
    ring (by (by (at x.num) (at (negsuc m))) (nat b)) (minus (by (at x.num) (nat (b * suc m)))) (omega arith)
    ∙ ap neg_ℤ (ratio_value (neg_ℤ (a *ℤ pos f)) (b * suc m) (positive b m p))
    ∙ ring (minus (by (minus (by (at a) (nat f))) (nat (den x)))) (by (at a) (nat (den x * f))) (omega arith)

pub num_apart : (q : Rational) → ¬ (q =ℚ zero) → ¬ (q.num ≡ pos 0)
unfolding whole den
num_apart q h e = h (record { eq = omega (arith, ints, e) })

pub quotient_product : (p q : Rational) → ¬ (q =ℚ zero) → product_of (quotient_of p q) q =ℚ p
unfolding product_of quotient_of
quotient_product p q h =
    let x = quotient_parts p.num (den p) q.num (den q) in
    ratio_same_as (x.num *ℤ q.num) (den x * den q) p (dens_pos x q) (quotient_back q.num p.num (den p) (den q) (den_pos p) (num_apart q h))

quotient_le : (e a c : ℤ) (b d f : ℕ) → 0 < b → 0 < d → pos 0 <ℤ e → (a *ℤ pos d) ≤ℤ (c *ℤ pos b) → quotient_parts a b e f ≤ℚ quotient_parts c d e f
unfolding quotient_parts
quotient_le (pos nothing) a c b d f p q s h = absurd (omega (arith, ints))
quotient_le (pos (suc m)) a c b d f p q s h =
    let x = mul-le-mul_right (f * suc m) (parts_le (by (at a) (nat d)) (by (at c) (nat b)) h) in
    ratio_le (a *ℤ pos f) (c *ℤ pos f) (b * suc m) (d * suc m) (positive b m p) (positive d m q)
    (ring_le (by (by (at a) (nat f)) (nat (d * suc m))) (by (by (at c) (nat f)) (nat (b * suc m))) (omega arith))
quotient_le (negsuc m) a c b d f p q s h = absurd (omega (arith, ints))

quotient_turned_le : (e a c : ℤ) (b d f : ℕ) → 0 < b → 0 < d → e <ℤ pos 0 → (a *ℤ pos d) ≤ℤ (c *ℤ pos b) → quotient_parts c d e f ≤ℚ quotient_parts a b e f
unfolding quotient_parts
quotient_turned_le (pos nothing) a c b d f p q s h = absurd (omega (arith, ints))
quotient_turned_le (pos (suc m)) a c b d f p q s h = absurd (omega (arith, ints))
quotient_turned_le (negsuc m) a c b d f p q s h =
    let x = mul-le-mul_right (f * suc m) (parts_le (by (at a) (nat d)) (by (at c) (nat b)) h) in
    ratio_le (neg_ℤ (c *ℤ pos f)) (neg_ℤ (a *ℤ pos f)) (d * suc m) (b * suc m) (positive d m q) (positive b m p)
    (ring_le (by (minus (by (at c) (nat f))) (nat (b * suc m))) (by (minus (by (at a) (nat f))) (nat (d * suc m))) (omega arith))

pub quotient_at_most : (p q r : Rational) → zero <ℚ r → p ≤ℚ q → quotient_of p r ≤ℚ quotient_of q r
unfolding quotient_of
quotient_at_most p q r s h = quotient_le r.num p.num q.num (den p) (den q) (den r) (den_pos p) (den_pos q) (num_above r s) h.le

pub quotient_turned : (p q r : Rational) → r <ℚ zero → p ≤ℚ q → quotient_of q r ≤ℚ quotient_of p r
unfolding quotient_of
quotient_turned p q r s h = quotient_turned_le r.num p.num q.num (den p) (den q) (den r) (den_pos p) (den_pos q) (num_below r s) h.le
