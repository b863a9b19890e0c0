-- A straight line rises or falls throughout, and goes through its two points.
use Rattle.std.proofs.Common.{◌≡◌, pos, ◌*ℤ◌, ◌-ℤ◌, ◌*◌, sym, ◌∙◌, arith, subst}
use Rattle.exact_fraction.specs.Number.{Rational, den, zero, whole}
use Rattle.exact_fraction.specs.Order.{◌≤ℚ◌, ◌<ℚ◌, ◌=ℚ◌}
use Rattle.exact_fraction.specs.Operations.{sum_of, difference_of, product_of, quotient_of, line_at}
use Rattle.exact_fraction.proofs.Ring.{at, nat, less, by, ring_lt, parts_lt}
use Rattle.exact_fraction.proofs.Ratios.{ratio_below}
use Rattle.exact_fraction.proofs.Orders.{≤ℚ_refl, ≤ℚ_trans, ≤ℚ_antisymm, =ℚ-at_most, =ℚ-at_least}
use Rattle.exact_fraction.proofs.Sums.{dens_pos, sum_commutes, sum_of_same, sum_at_most, sum_below, difference_at_most, difference_below}
use Rattle.exact_fraction.proofs.Products.{product_commutes, product_of_same, product_at_most, product_below, product_turned_at_most, product_turned_below, quotient_at_most}
use Rattle.exact_fraction.proofs.Quotients.{quotient_below}
use Rattle.exact_fraction.proofs.Lines.{difference_at_least, difference_above, difference_at_most_zero, sum_zero, sum_difference, product_zero, quotient_zero, product_quotient}

difference_below_zero : (p q : Rational) → q <ℚ p → difference_of q p <ℚ zero
unfolding difference_of whole den
difference_below_zero p q h =
    ratio_below (q.num *ℤ pos (den p) -ℤ p.num *ℤ pos (den q)) (den q * den p) zero (dens_pos q p)
    (ring_lt (by (less (by (at q.num) (nat (den p))) (by (at p.num) (nat (den q)))) (nat 1)) (by (nat 0) (nat (den q * den p))) (omega (arith, parts_lt (by (at q.num) (nat (den p))) (by (at p.num) (nat (den q))) h.lt)))

-- ---- the same order on the line as of what is divided
raised : (y w a b : Rational) → zero <ℚ w → a ≤ℚ b → sum_of y (quotient_of a w) ≤ℚ sum_of y (quotient_of b w)
raised y w a b p h = rw (sum_commutes y (quotient_of a w), sum_commutes y (quotient_of b w)) (sum_at_most (quotient_of a w) (quotient_of b w) y (quotient_at_most a b w p h))

raised_below : (y w a b : Rational) → zero <ℚ w → a <ℚ b → sum_of y (quotient_of a w) <ℚ sum_of y (quotient_of b w)
raised_below y w a b p h = rw (sum_commutes y (quotient_of a w), sum_commutes y (quotient_of b w)) (sum_below (quotient_of a w) (quotient_of b w) y (quotient_below a b w p h))

pub line_rising : (x0 y0 x1 y1 x z : Rational) → x0 <ℚ x1 → y0 ≤ℚ y1 → x ≤ℚ z → line_at x0 y0 x1 y1 x ≤ℚ line_at x0 y0 x1 y1 z
line_rising x0 y0 x1 y1 x z h up r =
    let d = difference_of y1 y0 in
    let s = difference_of x x0 in
    let t = difference_of z x0 in
    raised y0 (difference_of x1 x0) (product_of d s) (product_of d t) (difference_above x0 x1 h)
    (rw (product_commutes d s, product_commutes d t) (product_at_most s t d (difference_at_least y0 y1 up) (difference_at_most x z x0 r)))

pub line_falling : (x0 y0 x1 y1 x z : Rational) → x0 <ℚ x1 → y1 ≤ℚ y0 → x ≤ℚ z → line_at x0 y0 x1 y1 z ≤ℚ line_at x0 y0 x1 y1 x
line_falling x0 y0 x1 y1 x z h down r =
    let d = difference_of y1 y0 in
    let s = difference_of x x0 in
    let t = difference_of z x0 in
    raised y0 (difference_of x1 x0) (product_of d t) (product_of d s) (difference_above x0 x1 h)
    (rw (product_commutes d s, product_commutes d t) (product_turned_at_most s t d (difference_at_most_zero y0 y1 down) (difference_at_most x z x0 r)))

pub line_rising_below : (x0 y0 x1 y1 x z : Rational) → x0 <ℚ x1 → y0 <ℚ y1 → x <ℚ z → line_at x0 y0 x1 y1 x <ℚ line_at x0 y0 x1 y1 z
line_rising_below x0 y0 x1 y1 x z h up r =
    let d = difference_of y1 y0 in
    let s = difference_of x x0 in
    let t = difference_of z x0 in
    raised_below y0 (difference_of x1 x0) (product_of d s) (product_of d t) (difference_above x0 x1 h)
    (rw (product_commutes d s, product_commutes d t) (product_below s t d (difference_above y0 y1 up) (difference_below x z x0 r)))

pub line_falling_below : (x0 y0 x1 y1 x z : Rational) → x0 <ℚ x1 → y1 <ℚ y0 → x <ℚ z → line_at x0 y0 x1 y1 z <ℚ line_at x0 y0 x1 y1 x
line_falling_below x0 y0 x1 y1 x z h down r =
    let d = difference_of y1 y0 in
    let s = difference_of x x0 in
    let t = difference_of z x0 in
    raised_below y0 (difference_of x1 x0) (product_of d t) (product_of d s) (difference_above x0 x1 h)
    (rw (product_commutes d s, product_commutes d t) (product_turned_below s t d (difference_below_zero y0 y1 down) (difference_below x z x0 r)))

-- ---- its two points
nothing_apart : (x : Rational) → difference_of x x =ℚ zero
nothing_apart x = ≤ℚ_antisymm (difference_of x x) zero (difference_at_most_zero x x (≤ℚ_refl x)) (difference_at_least x x (≤ℚ_refl x))

no_part : (d s w : Rational) → s =ℚ zero → zero <ℚ w → quotient_of (product_of d s) w =ℚ zero
no_part d s w h p =
    let is : product_of d s ≡ product_of d zero = product_commutes d s ∙ product_of_same s zero d h ∙ product_commutes zero d in
    let none : product_of d s =ℚ zero = subst (λ q. q =ℚ zero) (sym is) (product_zero d) in
    let up = ≤ℚ_trans (quotient_of (product_of d s) w) (quotient_of zero w) zero (quotient_at_most (product_of d s) zero w p (=ℚ-at_most _ _ none)) (=ℚ-at_most _ _ (quotient_zero w p)) in
    let down = ≤ℚ_trans zero (quotient_of zero w) (quotient_of (product_of d s) w) (=ℚ-at_least _ _ (quotient_zero w p)) (quotient_at_most zero (product_of d s) w p (=ℚ-at_least _ _ none)) in
    ≤ℚ_antisymm (quotient_of (product_of d s) w) zero up down

sum_with : (y u v : Rational) → u =ℚ v → sum_of y u ≡ sum_of y v
sum_with y u v h = sum_commutes y u ∙ sum_of_same u v y h ∙ sum_commutes v y

pub line_at_first : (x0 y0 x1 y1 : Rational) → x0 <ℚ x1 → line_at x0 y0 x1 y1 x0 =ℚ y0
line_at_first x0 y0 x1 y1 h =
    let d = difference_of y1 y0 in
    let w = difference_of x1 x0 in
    let s = difference_of x0 x0 in
    subst (λ v. v =ℚ y0) (sym (sum_with y0 (quotient_of (product_of d s) w) zero (no_part d s w (nothing_apart x0) (difference_above x0 x1 h)))) (sum_zero y0)

pub line_at_last : (x0 y0 x1 y1 : Rational) → x0 <ℚ x1 → line_at x0 y0 x1 y1 x1 =ℚ y1
line_at_last x0 y0 x1 y1 h =
    let d = difference_of y1 y0 in
    let w = difference_of x1 x0 in
    subst (λ v. v =ℚ y1) (sym (sum_with y0 (quotient_of (product_of d w) w) d (product_quotient d w (difference_above x0 x1 h)))) (sum_difference y0 y1)
