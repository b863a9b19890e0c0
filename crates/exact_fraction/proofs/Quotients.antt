-- Quotients and the order, in either operand.
use Rattle.std.proofs.Common.{◌≡◌, ℕ, suc, ◌*◌, ◌<◌, ℤ, pos, negsuc, neg_ℤ, ◌*ℤ◌, ◌≤ℤ◌, ◌<ℤ◌, refl, ap, arith, mul-le-mul_right, mul-lt-mul_of_pos_right, mul-pos}
use Rattle.std.proofs.Common.{zero as nothing}
use Rattle.std.proofs.lemmas.Int.{ints}
use Rattle.exact_fraction.specs.Number.{Rational, den, ratio, zero}
use Rattle.exact_fraction.specs.Order.{◌≤ℚ◌, ◌<ℚ◌, ◌=ℚ◌}
use Rattle.exact_fraction.specs.Operations.{quotient_of, quotient_parts, negation_of}
use Rattle.exact_fraction.proofs.Ring.{at, nat, by, minus, ring, ring_le, ring_lt, parts_le, parts_lt}
use Rattle.exact_fraction.proofs.Lowest.{den_pos}
use Rattle.exact_fraction.proofs.Ratios.{ratio_le, ratio_lt}
use Rattle.exact_fraction.proofs.Products.{num_above, num_below, num_at_least, num_at_most, num_apart}

positive : (b m : ℕ) → 0 < b → 0 < b * suc m
positive b m p = mul-pos p (omega arith)

-- ---- of a greater dividend
quotient_lt : (e a c : ℤ) (b d f : ℕ) → 0 < b → 0 < d → 0 < f → pos 0 <ℤ e → (a *ℤ pos d) <ℤ (c *ℤ pos b) → quotient_parts a b e f <ℚ quotient_parts c d e f
unfolding quotient_parts
quotient_lt (pos nothing) a c b d f p q r s h = absurd (omega (arith, ints))
quotient_lt (pos (suc m)) a c b d f p q r s h =
    let x = mul-lt-mul_of_pos_right {k = f * suc m} (parts_lt (by (at a) (nat d)) (by (at c) (nat b)) h) (positive f m r) in
    ratio_lt (a *ℤ pos f) (c *ℤ pos f) (b * suc m) (d * suc m) (positive b m p) (positive d m q)
    (ring_lt (by (by (at a) (nat f)) (nat (d * suc m))) (by (by (at c) (nat f)) (nat (b * suc m))) (omega arith))
quotient_lt (negsuc m) a c b d f p q r s h = absurd (omega (arith, ints))

quotient_turned_lt : (e a c : ℤ) (b d f : ℕ) → 0 < b → 0 < d → 0 < f → e <ℤ pos 0 → (a *ℤ pos d) <ℤ (c *ℤ pos b) → quotient_parts c d e f <ℚ quotient_parts a b e f
unfolding quotient_parts
quotient_turned_lt (pos nothing) a c b d f p q r s h = absurd (omega (arith, ints))
quotient_turned_lt (pos (suc m)) a c b d f p q r s h = absurd (omega (arith, ints))
quotient_turned_lt (negsuc m) a c b d f p q r s h =
    let x = mul-lt-mul_of_pos_right {k = f * suc m} (parts_lt (by (at a) (nat d)) (by (at c) (nat b)) h) (positive f m r) in
    ratio_lt (neg_ℤ (c *ℤ pos f)) (neg_ℤ (a *ℤ pos f)) (d * suc m) (b * suc m) (positive d m q) (positive b m p)
    (ring_lt (by (minus (by (at c) (nat f))) (nat (b * suc m))) (by (minus (by (at a) (nat f))) (nat (d * suc m))) (omega arith))

pub quotient_below : (p q r : Rational) → zero <ℚ r → p <ℚ q → quotient_of p r <ℚ quotient_of q r
unfolding quotient_of
quotient_below p q r s h = quotient_lt r.num p.num q.num (den p) (den q) (den r) (den_pos p) (den_pos q) (den_pos r) (num_above r s) h.lt

pub quotient_turned_below : (p q r : Rational) → r <ℚ zero → p <ℚ q → quotient_of q r <ℚ quotient_of p r
unfolding quotient_of
quotient_turned_below p q r s h = quotient_turned_lt r.num p.num q.num (den p) (den q) (den r) (den_pos p) (den_pos q) (den_pos r) (num_below r s) h.lt

-- ---- by a greater divisor
by_greater : (e g a : ℤ) (b f h : ℕ) → 0 < b → pos 0 ≤ℤ a → pos 0 <ℤ e → pos 0 <ℤ g → (e *ℤ pos h) ≤ℤ (g *ℤ pos f) → quotient_parts a b g h ≤ℚ quotient_parts a b e f
unfolding quotient_parts
by_greater (pos nothing) g a b f h p s k l m = absurd (omega (arith, ints))
by_greater (negsuc e) g a b f h p s k l m = absurd (omega (arith, ints))
by_greater (pos (suc e)) (pos nothing) a b f h p s k l m = absurd (omega (arith, ints))
by_greater (pos (suc e)) (negsuc g) a b f h p s k l m = absurd (omega (arith, ints))
by_greater (pos (suc e)) (pos (suc g)) (negsuc a) b f h p s k l m = absurd (omega (arith, ints))
by_greater (pos (suc e)) (pos (suc g)) (pos a) b f h p s k l m =
    let x = mul-le-mul_right (a * b) (parts_le (by (nat (suc e)) (nat h)) (by (nat (suc g)) (nat f)) m) in
    ratio_le (pos a *ℤ pos h) (pos a *ℤ pos f) (b * suc g) (b * suc e) (positive b g p) (positive b e p)
    (ring_le (by (by (nat a) (nat h)) (nat (b * suc e))) (by (by (nat a) (nat f)) (nat (b * suc g))) (omega arith))

by_greater_turned : (e g a : ℤ) (b f h : ℕ) → 0 < b → a ≤ℤ pos 0 → pos 0 <ℤ e → pos 0 <ℤ g → (e *ℤ pos h) ≤ℤ (g *ℤ pos f) → quotient_parts a b e f ≤ℚ quotient_parts a b g h
unfolding quotient_parts
by_greater_turned (pos nothing) g a b f h p s k l m = absurd (omega (arith, ints))
by_greater_turned (negsuc e) g a b f h p s k l m = absurd (omega (arith, ints))
by_greater_turned (pos (suc e)) (pos nothing) a b f h p s k l m = absurd (omega (arith, ints))
by_greater_turned (pos (suc e)) (negsuc g) a b f h p s k l m = absurd (omega (arith, ints))
by_greater_turned (pos (suc e)) (pos (suc g)) (pos (suc a)) b f h p s k l m = absurd (omega (arith, ints))
by_greater_turned (pos (suc e)) (pos (suc g)) (pos nothing) b f h p s k l m =
    ratio_le (pos 0 *ℤ pos f) (pos 0 *ℤ pos h) (b * suc e) (b * suc g) (positive b e p) (positive b g p)
    (ring_le (by (by (nat 0) (nat f)) (nat (b * suc g))) (by (by (nat 0) (nat h)) (nat (b * suc e))) (omega arith))
by_greater_turned (pos (suc e)) (pos (suc g)) (negsuc a) b f h p s k l m =
    let x = mul-le-mul_right (suc a * b) (parts_le (by (nat (suc e)) (nat h)) (by (nat (suc g)) (nat f)) m) in
    ratio_le (negsuc a *ℤ pos f) (negsuc a *ℤ pos h) (b * suc e) (b * suc g) (positive b e p) (positive b g p)
    (ring_le (by (by (at (negsuc a)) (nat f)) (nat (b * suc g))) (by (by (at (negsuc a)) (nat h)) (nat (b * suc e))) (omega arith))

pub quotient_by_greater : (p r s : Rational) → zero ≤ℚ p → zero <ℚ r → zero <ℚ s → r ≤ℚ s → quotient_of p s ≤ℚ quotient_of p r
unfolding quotient_of
quotient_by_greater p r s k l m h = by_greater r.num s.num p.num (den p) (den r) (den s) (den_pos p) (num_at_least p k) (num_above r l) (num_above s m) h.le

pub quotient_by_greater_turned : (p r s : Rational) → p ≤ℚ zero → zero <ℚ r → zero <ℚ s → r ≤ℚ s → quotient_of p r ≤ℚ quotient_of p s
unfolding quotient_of
quotient_by_greater_turned p r s k l m h = by_greater_turned r.num s.num p.num (den p) (den r) (den s) (den_pos p) (num_at_most p k) (num_above r l) (num_above s m) h.le

-- ---- both signs turned
signs_parts : (e a : ℤ) (b f : ℕ) → ¬ (e ≡ pos 0) → quotient_parts (neg_ℤ a) b (neg_ℤ e) f ≡ quotient_parts a b e f
unfolding quotient_parts
signs_parts (pos nothing) a b f h = absurd (h refl)
signs_parts (pos (suc e)) a b f h = ap (λ n. ratio n (b * suc e)) (ring (minus (by (minus (at a)) (nat f))) (by (at a) (nat f)) (omega arith))
signs_parts (negsuc e) a b f h = ap (λ n. ratio n (b * suc e)) (ring (by (minus (at a)) (nat f)) (minus (by (at a) (nat f))) (omega arith))

pub quotient_signs : (p r : Rational) → ¬ (r =ℚ zero) → quotient_of (negation_of p) (negation_of r) ≡ quotient_of p r
unfolding quotient_of negation_of den
quotient_signs p r h = signs_parts r.num p.num (suc p.below) (suc r.below) (num_apart r h)
