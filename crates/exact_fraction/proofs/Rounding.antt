-- Rounding gives the nearest multiple, half away from 0, and keeps the order.
use Rattle.std.proofs.Common.{◌≡◌, ℕ, suc, ◌+◌, ◌*◌, ◌/◌, ◌%◌, ◌<◌, ◌≤◌, ℤ, pos, negsuc, neg_ℤ, ◌*ℤ◌, ◌≤ℤ◌, refl, ap, ◌∙◌, arith, mul-pos, mod-lt, div-add-mod', mul-le-mul_right, le_of_mul-le-mul_right, le-div_iff_mul-le, div-mul-le_self}
use Rattle.std.proofs.lemmas.Int.{ints}
use Rattle.std.specs.Int.{◌∣◌}
use Rattle.exact_fraction.specs.Number.{Rational, den, ratio}
use Rattle.exact_fraction.specs.Order.{◌≤ℚ◌}
use Rattle.exact_fraction.specs.Operations.{nearest_whole, IsNearest, round9_of}
use Rattle.exact_fraction.proofs.Ring.{at, nat, plus, less, by, minus, ring, ring_le, ring_lt, parts_le}
use Rattle.exact_fraction.proofs.Lowest.{den_pos, ratio_value, ratio_divides}
use Rattle.exact_fraction.proofs.Ratios.{ratio_le}

-- the quotient m of 2n + d by 2d
halved : (n d m : ℕ) → 0 < d → m ≡ (2 * n + d) / (2 * d) → (2 * d * m ≤ 2 * n + d) × (2 * n < 2 * d * m + d)
halved n d m p e =
    let split : m * (2 * d) + (2 * n + d) % (2 * d) ≡ 2 * n + d = rw e (div-add-mod' (2 * n + d) (2 * d)) in
    let small : (2 * n + d) % (2 * d) < 2 * d = mod-lt (2 * n + d) (omega arith) in
    (omega arith, omega arith)

nearest_up : (n d m : ℕ) → 0 < d → (2 * d * m ≤ 2 * n + d) × (2 * n < 2 * d * m + d) → IsNearest (pos n) d (pos m)
nearest_up n d m p h = record {
  from_below = ring_le (less (by (nat 2) (nat n)) (nat d)) (by (nat (2 * d)) (nat m)) (omega arith);
  from_above = ring_le (by (nat (2 * d)) (nat m)) (plus (by (nat 2) (nat n)) (nat d)) (omega arith);
  away_upward = λ _. ring_lt (less (by (nat 2) (nat n)) (nat d)) (by (nat (2 * d)) (nat m)) (omega arith);
  away_downward = λ k. absurd (omega (arith, ints, k));
}

nearest_down : (n d m : ℕ) → 0 < d → (2 * d * m ≤ 2 * suc n + d) × (2 * suc n < 2 * d * m + d) → IsNearest (negsuc n) d (neg_ℤ (pos m))
nearest_down n d m p h = record {
  from_below = ring_le (less (by (nat 2) (at (negsuc n))) (nat d)) (by (nat (2 * d)) (minus (nat m))) (omega arith);
  from_above = ring_le (by (nat (2 * d)) (minus (nat m))) (plus (by (nat 2) (at (negsuc n))) (nat d)) (omega arith);
  away_upward = λ k. absurd (omega (arith, ints, k));
  away_downward = λ _. ring_lt (by (nat (2 * d)) (minus (nat m))) (plus (by (nat 2) (at (negsuc n))) (nat d)) (omega arith);
}

pub nearest : (n : ℤ) (d : ℕ) → 0 < d → IsNearest n d (nearest_whole n d)
unfolding nearest_whole
nearest (pos n) d p = nearest_up n d _ p (halved n d _ p refl)
nearest (negsuc n) d p = nearest_down n d _ p (halved (suc n) d _ p refl)

pub multiple : (q : Rational) → (round9_of q).num *ℤ pos 1000000000 ≡ nearest_whole (q.num *ℤ pos 1000000000) (den q) *ℤ pos (den (round9_of q))
unfolding round9_of
multiple q = ratio_value (nearest_whole (q.num *ℤ pos 1000000000) (den q)) 1000000000 (omega arith)

-- ---- the order
halved_le : (n m b d : ℕ) → 0 < b → 0 < d → n * d ≤ m * b → (2 * n + b) / (2 * b) ≤ (2 * m + d) / (2 * d)
halved_le n m b d p q h =
    let k = (2 * n + b) / (2 * b) in
    let low : k * (2 * b) ≤ 2 * n + b = div-mul-le_self (2 * n + b) (2 * b) in
    (le-div_iff_mul-le {k = 2 * d} {x = k} {y = 2 * m + d} (omega arith)).1 (le_of_mul-le-mul_right {k = b} (omega (arith, mul-le-mul_right d low)) p)

nearest_le : (n m : ℤ) (b d : ℕ) → 0 < b → 0 < d → (n *ℤ pos d) ≤ℤ (m *ℤ pos b) → nearest_whole n b ≤ℤ nearest_whole m d
unfolding nearest_whole
nearest_le (pos n) (pos m) b d p q h = ring_le (nat ((2 * n + b) / (2 * b))) (nat ((2 * m + d) / (2 * d))) (omega (arith, halved_le n m b d p q (omega (arith, parts_le (by (nat n) (nat d)) (by (nat m) (nat b)) h))))
nearest_le (negsuc n) (pos m) b d p q h = omega (arith, ints)
nearest_le (pos n) (negsuc m) b d p q h = absurd (omega (arith, mul-pos {m = suc m} {n = b} (omega arith) p, parts_le (by (nat n) (nat d)) (by (at (negsuc m)) (nat b)) h))
nearest_le (negsuc n) (negsuc m) b d p q h =
    ring_le (minus (nat ((2 * suc n + b) / (2 * b)))) (minus (nat ((2 * suc m + d) / (2 * d)))) (omega (arith, halved_le (suc m) (suc n) d b q p (omega (arith, parts_le (by (at (negsuc n)) (nat d)) (by (at (negsuc m)) (nat b)) h))))

billion_le : (a c : ℤ) (b d : ℕ) → (a *ℤ pos d) ≤ℤ (c *ℤ pos b) → ((a *ℤ pos 1000000000) *ℤ pos d) ≤ℤ ((c *ℤ pos 1000000000) *ℤ pos b)
billion_le a c b d h =
    ring_le (by (by (at a) (nat 1000000000)) (nat d)) (by (by (at c) (nat 1000000000)) (nat b)) (omega (arith, parts_le (by (at a) (nat d)) (by (at c) (nat b)) h))

same_den_le : (x y : ℤ) (k : ℕ) → x ≤ℤ y → (x *ℤ pos k) ≤ℤ (y *ℤ pos k)
same_den_le x y k h = ring_le (by (at x) (nat k)) (by (at y) (nat k)) (omega (arith, mul-le-mul_right k (parts_le (at x) (at y) h)))

pub round9_at_most : (p q : Rational) → p ≤ℚ q → round9_of p ≤ℚ round9_of q
unfolding round9_of
round9_at_most p q h =
    ratio_le _ _ 1000000000 1000000000 (omega arith) (omega arith)
    (same_den_le _ _ 1000000000 (nearest_le (p.num *ℤ pos 1000000000) (q.num *ℤ pos 1000000000) (den p) (den q) (den_pos p) (den_pos q) (billion_le p.num q.num (den p) (den q) h.le)))

-- ---- a ratio is rounded as the fraction that it reduces
nearest_same : (n m : ℤ) (b d : ℕ) → 0 < b → 0 < d → n *ℤ pos d ≡ m *ℤ pos b → nearest_whole n b ≡ nearest_whole m d
nearest_same n m b d p q h =
    let up = nearest_le n m b d p q (omega (arith, ints, h)) in
    let down = nearest_le m n d b q p (omega (arith, ints, h)) in
    omega (arith, ints, up, down)

pub round9_ratio : (n : ℤ) (d : ℕ) → 0 < d → round9_of (ratio n d) ≡ ratio (nearest_whole (n *ℤ pos 1000000000) d) 1000000000
unfolding round9_of
round9_ratio n d p =
    let r = ratio n d in
    let cross : (r.num *ℤ pos 1000000000) *ℤ pos d ≡ (n *ℤ pos 1000000000) *ℤ pos (den r) =
    ring (by (by (at r.num) (nat 1000000000)) (nat d)) (by (by (at r.num) (nat d)) (nat 1000000000)) (omega arith)
    ∙ ap (λ x. x *ℤ pos 1000000000) (ratio_value n d p)
    ∙ ring (by (by (at n) (nat (den r))) (nat 1000000000)) (by (by (at n) (nat 1000000000)) (nat (den r))) (omega arith) in
    ap (λ x. ratio x 1000000000) (nearest_same (r.num *ℤ pos 1000000000) (n *ℤ pos 1000000000) (den r) d (den_pos r) p cross)

pub round9_divides : (q : Rational) → den (round9_of q) ∣ 1000000000
unfolding round9_of
round9_divides q = ratio_divides (nearest_whole (q.num *ℤ pos 1000000000) (den q)) 1000000000 (omega arith)
