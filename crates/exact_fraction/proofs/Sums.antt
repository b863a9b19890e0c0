-- Sums, differences, signs and the order.
use Rattle.std.proofs.Common.{◌≡◌, ℕ, zero, suc, ◌*◌, ◌<◌, ℤ, pos, negsuc, neg_ℤ, ◌+ℤ◌, ◌-ℤ◌, ◌*ℤ◌, ◌≤ℤ◌, ◌<ℤ◌, refl, ap, ap₂, arith, mul-le-mul_right, mul-lt-mul_of_pos_right, mul-pos, mul_comm, lt_of_mul-lt-mul_right}
use Rattle.std.specs.Prelude.{unsigned_abs}
use Rattle.exact_fraction.specs.Number.{Rational, den, ratio, IsLowest}
use Rattle.exact_fraction.specs.Order.{◌≤ℚ◌, ◌<ℚ◌, ◌=ℚ◌}
use Rattle.exact_fraction.specs.Operations.{sum_of, difference_of, product_of, negation_of, middle_of}
use Rattle.exact_fraction.proofs.Ring.{at, nat, plus, less, by, minus, ring, ring_le, ring_lt, parts_same, parts_le, parts_lt}
use Rattle.exact_fraction.proofs.Lowest.{den_pos, ratio_value, cancel_right}
use Rattle.exact_fraction.proofs.Ratios.{ratio_le, ratio_lt, ratio_same, ratio_above, ratio_below}

-- the denominator of a sum, a difference or a product
pub dens_pos : (p q : Rational) → 0 < den p * den q
dens_pos p q = mul-pos (den_pos p) (den_pos q)

pub sum_commutes : (p q : Rational) → sum_of p q ≡ sum_of q p
unfolding sum_of
sum_commutes p q =
    ap₂ ratio (ring (plus (by (at p.num) (nat (den q))) (by (at q.num) (nat (den p)))) (plus (by (at q.num) (nat (den p))) (by (at p.num) (nat (den q)))) (omega arith)) (mul_comm (den p) (den q))

-- (a/b + c/d) + e/f and a/b + (c/d + e/f), where s is a numerator of the first sum and t one of the
-- second
associated : (a c e s t : ℤ) (b d f k l : ℕ) → 0 < b * d → 0 < d * f → s *ℤ pos (b * d) ≡ (a *ℤ pos d +ℤ c *ℤ pos b) *ℤ pos k → t *ℤ pos (d * f) ≡ (c *ℤ pos f +ℤ e *ℤ pos d) *ℤ pos l → (s *ℤ pos f +ℤ e *ℤ pos k) *ℤ pos (b * l) ≡ (a *ℤ pos l +ℤ t *ℤ pos b) *ℤ pos (k * f)
associated a c e s t b d f k l p q h g =
    let x = ap (λ n. n * (f * (b * l) * (d * f))) (parts_same (by (at s) (nat (b * d))) (by (plus (by (at a) (nat d)) (by (at c) (nat b))) (nat k)) h) in
    let y = ap (λ n. n * (b * (k * f) * (b * d))) (parts_same (by (at t) (nat (d * f))) (by (plus (by (at c) (nat f)) (by (at e) (nat d))) (nat l)) g) in
    cancel_right _ _ ((b * d) * (d * f)) (mul-pos p q)
    (ring (by (by (plus (by (at s) (nat f)) (by (at e) (nat k))) (nat (b * l))) (nat ((b * d) * (d * f)))) (by (by (plus (by (at a) (nat l)) (by (at t) (nat b))) (nat (k * f))) (nat ((b * d) * (d * f)))) (omega (arith, x, y)))

pub sum_associates : (p q r : Rational) → sum_of (sum_of p q) r ≡ sum_of p (sum_of q r)
unfolding sum_of
sum_associates p q r =
    let s = ratio (p.num *ℤ pos (den q) +ℤ q.num *ℤ pos (den p)) (den p * den q) in
    let t = ratio (q.num *ℤ pos (den r) +ℤ r.num *ℤ pos (den q)) (den q * den r) in
    ratio_same _ _ (den s * den r) (den p * den t) (dens_pos s r) (dens_pos p t)
    (associated p.num q.num r.num s.num t.num (den p) (den q) (den r) (den s) (den t) (dens_pos p q) (dens_pos q r) (ratio_value _ (den p * den q) (dens_pos p q)) (ratio_value _ (den q * den r) (dens_pos q r)))

pub as_sum : (p q : Rational) → difference_of p q ≡ sum_of p (negation_of q)
unfolding difference_of sum_of negation_of den
as_sum p q =
    ap (λ n. ratio n (den p * den q)) (ring (less (by (at p.num) (nat (den q))) (by (at q.num) (nat (den p)))) (plus (by (at p.num) (nat (den q))) (by (minus (at q.num)) (nat (den p)))) (omega arith))

sum_eq : (a c e : ℤ) (b d f : ℕ) → a *ℤ pos d ≡ c *ℤ pos b → (a *ℤ pos f +ℤ e *ℤ pos b) *ℤ pos (d * f) ≡ (c *ℤ pos f +ℤ e *ℤ pos d) *ℤ pos (b * f)
sum_eq a c e b d f h =
    let x = ap (λ n. n * (f * f)) (parts_same (by (at a) (nat d)) (by (at c) (nat b)) h) in
    ring (by (plus (by (at a) (nat f)) (by (at e) (nat b))) (nat (d * f))) (by (plus (by (at c) (nat f)) (by (at e) (nat d))) (nat (b * f))) (omega (arith, x))

difference_eq : (a c e : ℤ) (b d f : ℕ) → a *ℤ pos d ≡ c *ℤ pos b → (a *ℤ pos f -ℤ e *ℤ pos b) *ℤ pos (d * f) ≡ (c *ℤ pos f -ℤ e *ℤ pos d) *ℤ pos (b * f)
difference_eq a c e b d f h =
    let x = ap (λ n. n * (f * f)) (parts_same (by (at a) (nat d)) (by (at c) (nat b)) h) in
    ring (by (less (by (at a) (nat f)) (by (at e) (nat b))) (nat (d * f))) (by (less (by (at c) (nat f)) (by (at e) (nat d))) (nat (b * f))) (omega (arith, x))

taken_eq : (a c e : ℤ) (b d f : ℕ) → a *ℤ pos d ≡ c *ℤ pos b → (e *ℤ pos b -ℤ a *ℤ pos f) *ℤ pos (f * d) ≡ (e *ℤ pos d -ℤ c *ℤ pos f) *ℤ pos (f * b)
taken_eq a c e b d f h =
    let x = ap (λ n. n * (f * f)) (parts_same (by (at a) (nat d)) (by (at c) (nat b)) h) in
    ring (by (less (by (at e) (nat b)) (by (at a) (nat f))) (nat (f * d))) (by (less (by (at e) (nat d)) (by (at c) (nat f))) (nat (f * b))) (omega (arith, x))

pub sum_of_same : (p q r : Rational) → p =ℚ q → sum_of p r ≡ sum_of q r
unfolding sum_of
sum_of_same p q r h =
    ratio_same _ _ (den p * den r) (den q * den r) (dens_pos p r) (dens_pos q r) (sum_eq p.num q.num r.num (den p) (den q) (den r) h.eq)

pub difference_of_same : (p q r : Rational) → p =ℚ q → (difference_of p r ≡ difference_of q r) × (difference_of r p ≡ difference_of r q)
unfolding difference_of
difference_of_same p q r h = (
  ratio_same _ _ (den p * den r) (den q * den r) (dens_pos p r) (dens_pos q r) (difference_eq p.num q.num r.num (den p) (den q) (den r) h.eq),
  ratio_same _ _ (den r * den p) (den r * den q) (dens_pos r p) (dens_pos r q) (taken_eq p.num q.num r.num (den p) (den q) (den r) h.eq),
)

-- ---- a/b and c/d, with e/f added, taken away, or the other way round
sum_le : (a c e : ℤ) (b d f : ℕ) → (a *ℤ pos d) ≤ℤ (c *ℤ pos b) → ((a *ℤ pos f +ℤ e *ℤ pos b) *ℤ pos (d * f)) ≤ℤ ((c *ℤ pos f +ℤ e *ℤ pos d) *ℤ pos (b * f))
sum_le a c e b d f h =
    let x = mul-le-mul_right (f * f) (parts_le (by (at a) (nat d)) (by (at c) (nat b)) h) in
    ring_le (by (plus (by (at a) (nat f)) (by (at e) (nat b))) (nat (d * f))) (by (plus (by (at c) (nat f)) (by (at e) (nat d))) (nat (b * f))) (omega arith)

sum_lt : (a c e : ℤ) (b d f : ℕ) → 0 < f → (a *ℤ pos d) <ℤ (c *ℤ pos b) → ((a *ℤ pos f +ℤ e *ℤ pos b) *ℤ pos (d * f)) <ℤ ((c *ℤ pos f +ℤ e *ℤ pos d) *ℤ pos (b * f))
sum_lt a c e b d f p h =
    let x = mul-lt-mul_of_pos_right {k = f * f} (parts_lt (by (at a) (nat d)) (by (at c) (nat b)) h) (mul-pos p p) in
    ring_lt (by (plus (by (at a) (nat f)) (by (at e) (nat b))) (nat (d * f))) (by (plus (by (at c) (nat f)) (by (at e) (nat d))) (nat (b * f))) (omega arith)

difference_le : (a c e : ℤ) (b d f : ℕ) → (a *ℤ pos d) ≤ℤ (c *ℤ pos b) → ((a *ℤ pos f -ℤ e *ℤ pos b) *ℤ pos (d * f)) ≤ℤ ((c *ℤ pos f -ℤ e *ℤ pos d) *ℤ pos (b * f))
difference_le a c e b d f h =
    let x = mul-le-mul_right (f * f) (parts_le (by (at a) (nat d)) (by (at c) (nat b)) h) in
    ring_le (by (less (by (at a) (nat f)) (by (at e) (nat b))) (nat (d * f))) (by (less (by (at c) (nat f)) (by (at e) (nat d))) (nat (b * f))) (omega arith)

difference_lt : (a c e : ℤ) (b d f : ℕ) → 0 < f → (a *ℤ pos d) <ℤ (c *ℤ pos b) → ((a *ℤ pos f -ℤ e *ℤ pos b) *ℤ pos (d * f)) <ℤ ((c *ℤ pos f -ℤ e *ℤ pos d) *ℤ pos (b * f))
difference_lt a c e b d f p h =
    let x = mul-lt-mul_of_pos_right {k = f * f} (parts_lt (by (at a) (nat d)) (by (at c) (nat b)) h) (mul-pos p p) in
    ring_lt (by (less (by (at a) (nat f)) (by (at e) (nat b))) (nat (d * f))) (by (less (by (at c) (nat f)) (by (at e) (nat d))) (nat (b * f))) (omega arith)

taken_le : (a c e : ℤ) (b d f : ℕ) → (a *ℤ pos d) ≤ℤ (c *ℤ pos b) → ((e *ℤ pos d -ℤ c *ℤ pos f) *ℤ pos (f * b)) ≤ℤ ((e *ℤ pos b -ℤ a *ℤ pos f) *ℤ pos (f * d))
taken_le a c e b d f h =
    let x = mul-le-mul_right (f * f) (parts_le (by (at a) (nat d)) (by (at c) (nat b)) h) in
    ring_le (by (less (by (at e) (nat d)) (by (at c) (nat f))) (nat (f * b))) (by (less (by (at e) (nat b)) (by (at a) (nat f))) (nat (f * d))) (omega arith)

taken_lt : (a c e : ℤ) (b d f : ℕ) → 0 < f → (a *ℤ pos d) <ℤ (c *ℤ pos b) → ((e *ℤ pos d -ℤ c *ℤ pos f) *ℤ pos (f * b)) <ℤ ((e *ℤ pos b -ℤ a *ℤ pos f) *ℤ pos (f * d))
taken_lt a c e b d f p h =
    let x = mul-lt-mul_of_pos_right {k = f * f} (parts_lt (by (at a) (nat d)) (by (at c) (nat b)) h) (mul-pos p p) in
    ring_lt (by (less (by (at e) (nat d)) (by (at c) (nat f))) (nat (f * b))) (by (less (by (at e) (nat b)) (by (at a) (nat f))) (nat (f * d))) (omega arith)

pub sum_at_most : (p q r : Rational) → p ≤ℚ q → sum_of p r ≤ℚ sum_of q r
unfolding sum_of
sum_at_most p q r h =
    ratio_le _ _ (den p * den r) (den q * den r) (dens_pos p r) (dens_pos q r) (sum_le p.num q.num r.num (den p) (den q) (den r) h.le)

pub sum_below : (p q r : Rational) → p <ℚ q → sum_of p r <ℚ sum_of q r
unfolding sum_of
sum_below p q r h =
    ratio_lt _ _ (den p * den r) (den q * den r) (dens_pos p r) (dens_pos q r) (sum_lt p.num q.num r.num (den p) (den q) (den r) (den_pos r) h.lt)

pub difference_at_most : (p q r : Rational) → p ≤ℚ q → difference_of p r ≤ℚ difference_of q r
unfolding difference_of
difference_at_most p q r h =
    ratio_le _ _ (den p * den r) (den q * den r) (dens_pos p r) (dens_pos q r) (difference_le p.num q.num r.num (den p) (den q) (den r) h.le)

pub difference_below : (p q r : Rational) → p <ℚ q → difference_of p r <ℚ difference_of q r
unfolding difference_of
difference_below p q r h =
    ratio_lt _ _ (den p * den r) (den q * den r) (dens_pos p r) (dens_pos q r) (difference_lt p.num q.num r.num (den p) (den q) (den r) (den_pos r) h.lt)

pub taken_at_most : (p q r : Rational) → p ≤ℚ q → difference_of r q ≤ℚ difference_of r p
unfolding difference_of
taken_at_most p q r h =
    ratio_le _ _ (den r * den q) (den r * den p) (dens_pos r q) (dens_pos r p) (taken_le p.num q.num r.num (den p) (den q) (den r) h.le)

pub taken_below : (p q r : Rational) → p <ℚ q → difference_of r q <ℚ difference_of r p
unfolding difference_of
taken_below p q r h =
    ratio_lt _ _ (den r * den q) (den r * den p) (dens_pos r q) (dens_pos r p) (taken_lt p.num q.num r.num (den p) (den q) (den r) (den_pos r) h.lt)

-- ---- signs
pub sign_at_most : (p q : Rational) → p ≤ℚ q → negation_of q ≤ℚ negation_of p
unfolding negation_of den
sign_at_most p q h =
    record { le = ring_le (by (minus (at q.num)) (nat (den p))) (by (minus (at p.num)) (nat (den q))) (omega (arith, parts_le (by (at p.num) (nat (den q))) (by (at q.num) (nat (den p))) h.le)) }

pub sign_below : (p q : Rational) → p <ℚ q → negation_of q <ℚ negation_of p
unfolding negation_of den
sign_below p q h =
    record { lt = ring_lt (by (minus (at q.num)) (nat (den p))) (by (minus (at p.num)) (nat (den q))) (omega (arith, parts_lt (by (at p.num) (nat (den q))) (by (at q.num) (nat (den p))) h.lt)) }

abbrev pair : ℤ → ℕ → Rational
pair n b = record { num = n; below = b }

pub sign_twice : (p : Rational) → negation_of (negation_of p) ≡ p
unfolding negation_of
sign_twice p = ap (λ n. pair n p.below) (ring (minus (minus (at p.num))) (at p.num) (omega arith))

pub size-sign : (n : ℤ) → unsigned_abs (neg_ℤ n) ≡ unsigned_abs n
size-sign (pos zero) = refl
size-sign (pos (suc n)) = refl
size-sign (negsuc n) = refl

pub sign_lowest : (p : Rational) → IsLowest p → IsLowest (negation_of p)
unfolding negation_of den
sign_lowest p h = record { coprime = rw (size-sign p.num) h.coprime }

-- ---- the order is dense
middle_above : (a c s : ℤ) (b d e : ℕ) → 0 < b → 0 < d → s *ℤ pos (b * d) ≡ (a *ℤ pos d +ℤ c *ℤ pos b) *ℤ pos e → 0 < e → (a *ℤ pos d) <ℤ (c *ℤ pos b) → (a *ℤ pos (e * 2)) <ℤ ((s *ℤ pos 1) *ℤ pos b)
middle_above a c s b d e p q h k l =
    let x = ap (λ n. n * b) (parts_same (by (at s) (nat (b * d))) (by (plus (by (at a) (nat d)) (by (at c) (nat b))) (nat e)) h) in
    let y = mul-lt-mul_of_pos_right {k = b * e} (parts_lt (by (at a) (nat d)) (by (at c) (nat b)) l) (mul-pos p k) in
    ring_lt (by (at a) (nat (e * 2))) (by (by (at s) (nat 1)) (nat b)) (lt_of_mul-lt-mul_right (b * d) (omega (arith, x, y)))

middle_below : (a c s : ℤ) (b d e : ℕ) → 0 < b → 0 < d → s *ℤ pos (b * d) ≡ (a *ℤ pos d +ℤ c *ℤ pos b) *ℤ pos e → 0 < e → (a *ℤ pos d) <ℤ (c *ℤ pos b) → ((s *ℤ pos 1) *ℤ pos d) <ℤ (c *ℤ pos (e * 2))
middle_below a c s b d e p q h k l =
    let x = ap (λ n. n * d) (parts_same (by (at s) (nat (b * d))) (by (plus (by (at a) (nat d)) (by (at c) (nat b))) (nat e)) h) in
    let y = mul-lt-mul_of_pos_right {k = d * e} (parts_lt (by (at a) (nat d)) (by (at c) (nat b)) l) (mul-pos q k) in
    ring_lt (by (by (at s) (nat 1)) (nat d)) (by (at c) (nat (e * 2))) (lt_of_mul-lt-mul_right (b * d) (omega (arith, x, y)))

pub dense : (p q : Rational) → p <ℚ q → (p <ℚ middle_of p q) × (middle_of p q <ℚ q)
unfolding middle_of product_of sum_of den
dense p q h =
    let s = sum_of p q in
    let k = ratio_value (p.num *ℤ pos (den q) +ℤ q.num *ℤ pos (den p)) (den p * den q) (dens_pos p q) in (
      ratio_above (s.num *ℤ pos 1) (den s * 2) p (omega (arith, den_pos s)) (middle_above p.num q.num s.num (den p) (den q) (den s) (den_pos p) (den_pos q) k (den_pos s) h.lt),
      ratio_below (s.num *ℤ pos 1) (den s * 2) q (omega (arith, den_pos s)) (middle_below p.num q.num s.num (den p) (den q) (den s) (den_pos p) (den_pos q) k (den_pos s) h.lt),
    )
