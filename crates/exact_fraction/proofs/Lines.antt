-- A value on a straight line lies between the values of its two points.
use Rattle.std.proofs.Common.{◌≡◌, ℕ, suc, ◌*◌, ◌<◌, ℤ, pos, negsuc, ◌+ℤ◌, ◌-ℤ◌, ◌*ℤ◌, ◌<ℤ◌, arith, mul-pos, ⊎_elim}
use Rattle.std.proofs.Common.{zero as nothing}
use Rattle.std.proofs.lemmas.Int.{ints}
use Rattle.exact_fraction.specs.Number.{Rational, den, ratio, zero, whole}
use Rattle.exact_fraction.specs.Order.{◌≤ℚ◌, ◌<ℚ◌, ◌=ℚ◌, IsBetween, lesser_of, greater_of}
use Rattle.exact_fraction.specs.Operations.{sum_of, difference_of, product_of, quotient_of, quotient_parts, line_at}
use Rattle.exact_fraction.proofs.Ring.{at, nat, plus, less, by, ring, ring_le, ring_lt, parts_same, parts_le, parts_lt}
use Rattle.exact_fraction.proofs.Lowest.{den_pos, ratio_value}
use Rattle.exact_fraction.proofs.Orders.{≤ℚ_trans, ≤ℚ_total, <ℚ-at_most, =ℚ-at_most, =ℚ-at_least, lesser_left, lesser_right, greater_left, greater_right}
use Rattle.exact_fraction.proofs.Ratios.{ratio_same_as, ratio_at_least, ratio_at_most, ratio_above}
use Rattle.exact_fraction.proofs.Sums.{dens_pos, sum_commutes, sum_at_most, difference_at_most}
use Rattle.exact_fraction.proofs.Products.{product_commutes, product_at_most, product_turned_at_most, quotient_at_most, num_above}

-- ---- differences and 0
pub difference_at_least : (p q : Rational) → p ≤ℚ q → zero ≤ℚ difference_of q p
unfolding difference_of whole den
difference_at_least p q h =
    ratio_at_least (q.num *ℤ pos (den p) -ℤ p.num *ℤ pos (den q)) (den q * den p) zero (dens_pos q p)
    (ring_le (by (nat 0) (nat (den q * den p))) (by (less (by (at q.num) (nat (den p))) (by (at p.num) (nat (den q)))) (nat 1)) (omega (arith, parts_le (by (at p.num) (nat (den q))) (by (at q.num) (nat (den p))) h.le)))

pub difference_above : (p q : Rational) → p <ℚ q → zero <ℚ difference_of q p
unfolding difference_of whole den
difference_above p q h =
    ratio_above (q.num *ℤ pos (den p) -ℤ p.num *ℤ pos (den q)) (den q * den p) zero (dens_pos q p)
    (ring_lt (by (nat 0) (nat (den q * den p))) (by (less (by (at q.num) (nat (den p))) (by (at p.num) (nat (den q)))) (nat 1)) (omega (arith, parts_lt (by (at p.num) (nat (den q))) (by (at q.num) (nat (den p))) h.lt)))

pub difference_at_most_zero : (p q : Rational) → q ≤ℚ p → difference_of q p ≤ℚ zero
unfolding difference_of whole den
difference_at_most_zero p q h =
    ratio_at_most (q.num *ℤ pos (den p) -ℤ p.num *ℤ pos (den q)) (den q * den p) zero (dens_pos q p)
    (ring_le (by (less (by (at q.num) (nat (den p))) (by (at p.num) (nat (den q)))) (nat 1)) (by (nat 0) (nat (den q * den p))) (omega (arith, parts_le (by (at q.num) (nat (den p))) (by (at p.num) (nat (den q))) h.le)))

pub sum_zero : (p : Rational) → sum_of p zero =ℚ p
unfolding sum_of whole den
sum_zero p =
    ratio_same_as (p.num *ℤ pos 1 +ℤ pos 0 *ℤ pos (den p)) (den p * 1) p (omega (arith, den_pos p))
    (ring (by (plus (by (at p.num) (nat 1)) (by (nat 0) (nat (den p)))) (nat (den p))) (by (at p.num) (nat (den p * 1))) (omega arith))

pub sum_difference : (p q : Rational) → sum_of p (difference_of q p) =ℚ q
unfolding sum_of difference_of
sum_difference p q =
    let n = q.num *ℤ pos (den p) -ℤ p.num *ℤ pos (den q) in
    let d = ratio n (den q * den p) in
    let k = parts_same (by (at d.num) (nat (den q * den p))) (by (less (by (at q.num) (nat (den p))) (by (at p.num) (nat (den q)))) (nat (den d))) (ratio_value n (den q * den p) (dens_pos q p)) in
    ratio_same_as (p.num *ℤ pos (den d) +ℤ d.num *ℤ pos (den p)) (den p * den d) q (dens_pos p d)
    (ring (by (plus (by (at p.num) (nat (den d))) (by (at d.num) (nat (den p)))) (nat (den q))) (by (at q.num) (nat (den p * den d))) (omega (arith, k)))

pub product_zero : (p : Rational) → product_of p zero =ℚ zero
unfolding product_of whole den
product_zero p =
    ratio_same_as (p.num *ℤ pos 0) (den p * 1) zero (omega (arith, den_pos p))
    (ring (by (by (at p.num) (nat 0)) (nat 1)) (by (nat 0) (nat (den p * 1))) (omega arith))

-- ---- quotients by a positive number
zero_parts : (e : ℤ) (f : ℕ) → pos 0 <ℤ e → quotient_parts (pos 0) 1 e f =ℚ zero
unfolding quotient_parts whole den
zero_parts (pos nothing) f h = absurd (omega (arith, ints))
zero_parts (pos (suc m)) f h =
    ratio_same_as (pos 0 *ℤ pos f) (1 * suc m) zero (omega arith)
    (ring (by (by (nat 0) (nat f)) (nat 1)) (by (nat 0) (nat (1 * suc m))) (omega arith))
zero_parts (negsuc m) f h = absurd (omega (arith, ints))

pub quotient_zero : (w : Rational) → zero <ℚ w → quotient_of zero w =ℚ zero
unfolding quotient_of whole den
quotient_zero w h = zero_parts w.num (den w) (num_above w h)

undo_parts : (e x : ℤ) (g f : ℕ) (p : Rational) → 0 < g → pos 0 <ℤ e → x *ℤ pos (den p * f) ≡ (p.num *ℤ e) *ℤ pos g → quotient_parts x g e f =ℚ p
unfolding quotient_parts
undo_parts (pos nothing) x g f p q h k = absurd (omega (arith, ints))
undo_parts (pos (suc m)) x g f p q h k =
    ratio_same_as (x *ℤ pos f) (g * suc m) p (mul-pos q (omega arith))
    (ring (by (by (at x) (nat f)) (nat (den p))) (by (at p.num) (nat (g * suc m))) (omega (arith, parts_same (by (at x) (nat (den p * f))) (by (by (at p.num) (nat (suc m))) (nat g)) k)))
undo_parts (negsuc m) x g f p q h k = absurd (omega (arith, ints))

pub product_quotient : (p w : Rational) → zero <ℚ w → quotient_of (product_of p w) w =ℚ p
unfolding quotient_of product_of
product_quotient p w h =
    let x = ratio (p.num *ℤ w.num) (den p * den w) in
    undo_parts w.num x.num (den x) (den w) p (den_pos x) (num_above w h) (ratio_value (p.num *ℤ w.num) (den p * den w) (dens_pos p w))

-- ---- the same laws from the left
left_sum : (y p q : Rational) → p ≤ℚ q → sum_of y p ≤ℚ sum_of y q
left_sum y p q h = rw (sum_commutes y p, sum_commutes y q) (sum_at_most p q y h)

left_product : (d p q : Rational) → zero ≤ℚ d → p ≤ℚ q → product_of d p ≤ℚ product_of d q
left_product d p q s h = rw (product_commutes d p, product_commutes d q) (product_at_most p q d s h)

left_turned : (d p q : Rational) → d ≤ℚ zero → p ≤ℚ q → product_of d q ≤ℚ product_of d p
left_turned d p q s h = rw (product_commutes d p, product_commutes d q) (product_turned_at_most p q d s h)

-- ---- the line rises, or falls
rising : (y0 y1 s w : Rational) → y0 ≤ℚ y1 → zero ≤ℚ s → s ≤ℚ w → zero <ℚ w → (y0 ≤ℚ sum_of y0 (quotient_of (product_of (difference_of y1 y0) s) w)) × (sum_of y0 (quotient_of (product_of (difference_of y1 y0) s) w) ≤ℚ y1)
rising y0 y1 s w y l r p =
    let d = difference_of y1 y0 in
    let up = difference_at_least y0 y1 y in
    let x = product_of d s in
    let u = quotient_of x w in
    let x_low = ≤ℚ_trans zero (product_of d zero) x (=ℚ-at_least _ _ (product_zero d)) (left_product d zero s up l) in
    let u_low = ≤ℚ_trans zero (quotient_of zero w) u (=ℚ-at_least _ _ (quotient_zero w p)) (quotient_at_most zero x w p x_low) in
    let u_high = ≤ℚ_trans u (quotient_of (product_of d w) w) d (quotient_at_most x (product_of d w) w p (left_product d s w up r)) (=ℚ-at_most _ _ (product_quotient d w p)) in (
      ≤ℚ_trans y0 (sum_of y0 zero) (sum_of y0 u) (=ℚ-at_least _ _ (sum_zero y0)) (left_sum y0 zero u u_low),
      ≤ℚ_trans (sum_of y0 u) (sum_of y0 d) y1 (left_sum y0 u d u_high) (=ℚ-at_most _ _ (sum_difference y0 y1)),
    )

falling : (y0 y1 s w : Rational) → y1 ≤ℚ y0 → zero ≤ℚ s → s ≤ℚ w → zero <ℚ w → (y1 ≤ℚ sum_of y0 (quotient_of (product_of (difference_of y1 y0) s) w)) × (sum_of y0 (quotient_of (product_of (difference_of y1 y0) s) w) ≤ℚ y0)
falling y0 y1 s w y l r p =
    let d = difference_of y1 y0 in
    let down = difference_at_most_zero y0 y1 y in
    let x = product_of d s in
    let u = quotient_of x w in
    let x_high = ≤ℚ_trans x (product_of d zero) zero (left_turned d zero s down l) (=ℚ-at_most _ _ (product_zero d)) in
    let u_high = ≤ℚ_trans u (quotient_of zero w) zero (quotient_at_most x zero w p x_high) (=ℚ-at_most _ _ (quotient_zero w p)) in
    let u_low = ≤ℚ_trans d (quotient_of (product_of d w) w) u (=ℚ-at_least _ _ (product_quotient d w p)) (quotient_at_most (product_of d w) x w p (left_turned d s w down r)) in (
      ≤ℚ_trans y1 (sum_of y0 d) (sum_of y0 u) (=ℚ-at_least _ _ (sum_difference y0 y1)) (left_sum y0 d u u_low),
      ≤ℚ_trans (sum_of y0 u) (sum_of y0 zero) y0 (left_sum y0 u zero u_high) (=ℚ-at_most _ _ (sum_zero y0)),
    )

between : (p q v low high : Rational) → lesser_of p q ≤ℚ low → (low ≤ℚ v) × (v ≤ℚ high) → high ≤ℚ greater_of p q → IsBetween p q v
between p q v low high a b c = record { low = ≤ℚ_trans (lesser_of p q) low v a b.0; high = ≤ℚ_trans v high (greater_of p q) b.1 c }

pub line_between : (x0 y0 x1 y1 x : Rational) → x0 <ℚ x1 → x0 ≤ℚ x → x ≤ℚ x1 → IsBetween y0 y1 (line_at x0 y0 x1 y1 x)
line_between x0 y0 x1 y1 x h l r =
    let s = difference_of x x0 in
    let w = difference_of x1 x0 in
    let v = line_at x0 y0 x1 y1 x in
    let s_low = difference_at_least x0 x l in
    let s_high = difference_at_most x x1 x0 r in
    let w_low = difference_above x0 x1 h in
    let up = λ (k : y0 ≤ℚ y1). let b = rising y0 y1 s w k s_low s_high w_low in between y0 y1 v y0 y1 (lesser_left y0 y1) b (greater_right y0 y1) in
    let down = λ (k : y1 <ℚ y0). let b = falling y0 y1 s w (<ℚ-at_most y1 y0 k) s_low s_high w_low in between y0 y1 v y1 y0 (lesser_right y0 y1) b (greater_left y0 y1) in
    ⊎_elim up down (≤ℚ_total y0 y1)
