-- Products, quotients and powers of members lie in their hulls.
use Rattle.std.proofs.Common.{◌≡◌, ℕ, suc, Bool, true, false, ◌&&◌, ◌||◌, ◌⊎◌, inl, inr, refl, sym}
use Rattle.std.proofs.Common.{subst, ◌∙◌, zero as nothing, Option, Some, None, Result, Ok, Err}
use Rattle.std.specs.Prelude.{IsTrue, if◌then◌else◌}
use Rattle.std.proofs.lemmas.Bool.{and_parts, true≢false}
use Rattle.exact_fraction.specs.Number.{Rational, fits, zero, one}
use Rattle.exact_fraction.specs.Operations.{negation_of, product_of, quotient_of}
use Rattle.exact_fraction.specs.Order.{◌≤ℚ◌, ◌<ℚ◌, ◌=ℚ◌, greater_of, less, lesser_of}
use Rattle.exact_fraction.specs.Checked.{checked}
use Rattle.exact_fraction.specs.declared.error.Overflow.{Overflow}
use Rattle.exact_fraction.proofs.PublicLaws.{order-apart, order-at_most_below, order-below_at_most}
use Rattle.exact_fraction.proofs.PublicLaws.{order-below_is_at_most, order-greater, order-lesser}
use Rattle.exact_fraction.proofs.PublicLaws.{order-reflexive, order-same_is_at_most, order-total}
use Rattle.exact_fraction.proofs.PublicLaws.{order-transitive, products-at_most}
use Rattle.exact_fraction.proofs.PublicLaws.{products-by_greater, products-by_greater_turned}
use Rattle.exact_fraction.proofs.PublicLaws.{products-commutes, products-quotient_at_most}
use Rattle.exact_fraction.proofs.PublicLaws.{products-quotient_signs, products-quotient_turned}
use Rattle.exact_fraction.proofs.PublicLaws.{products-turned_at_most, sums-sign_at_most}
use Rattle.exact_fraction.proofs.PublicLaws.{sums-sign_below, tests-less}
use Rattle.interval_sets.specs.declared.interval.Bound.{Bound}
use Rattle.interval_sets.specs.declared.interval.Bound.TheVariants as end
use Rattle.interval_sets.specs.declared.interval.Interval.{Interval}
use Rattle.interval_sets.specs.Intervals.{lies_in, point_of, IsAbove, IsBelow}
use Rattle.interval_sets.proofs.PublicLaws.{intervals-inside}
use Rattle.rule_meaning.specs.CheckedSteps.{◌>>=◌}
use Rattle.rule_meaning.specs.Formula.{Derived, fitted, on_number, power}
use Rattle.verdict_meaning.specs.Hulls.{by_corners, closed, on_ends, on_one_side, or_line}
use Rattle.verdict_meaning.specs.Hulls.{power_hull, product_corners, product_hull}
use Rattle.verdict_meaning.specs.Hulls.{quotient_corners, quotient_hull, spanned}
use Rattle.verdict_meaning.proofs.HullSigns.{in_closed, turned_zero}
use Rattle.verdict_meaning.proofs.Relations.{at_least_of, at_most_of}
use Rattle.verdict_meaning.proofs.Tests.{or_cases}

-- ---- between two numbers, whichever is the greater
record Among (p q v : Rational) : Type 0 where
  pub low : (p ≤ℚ v) ⊎ (q ≤ℚ v)
  pub high : (v ≤ℚ p) ⊎ (v ≤ℚ q)

turn : {P Q : Type 0} → P ⊎ Q → Q ⊎ P
turn (inl h) = inr h
turn (inr h) = inl h

among_turned : (p q v : Rational) → Among p q v → Among q p v
among_turned p q v h = record { low = turn h.low; high = turn h.high }

under : (m p q v : Rational) → m ≤ℚ p → m ≤ℚ q → (p ≤ℚ v) ⊎ (q ≤ℚ v) → m ≤ℚ v
under m p q v h g (inl e) = order-transitive m p v h e
under m p q v h g (inr e) = order-transitive m q v g e

over : (m p q v : Rational) → p ≤ℚ m → q ≤ℚ m → (v ≤ℚ p) ⊎ (v ≤ℚ q) → v ≤ℚ m
over m p q v h g (inl e) = order-transitive v p m e h
over m p q v h g (inr e) = order-transitive v q m e g

-- ---- the span of four numbers
least_left : (a b c d : Rational) → lesser_of (lesser_of a b) (lesser_of c d) ≤ℚ lesser_of a b
least_left a b c d = (order-lesser (lesser_of a b) (lesser_of c d)).0

least_right : (a b c d : Rational) → lesser_of (lesser_of a b) (lesser_of c d) ≤ℚ lesser_of c d
least_right a b c d = (order-lesser (lesser_of a b) (lesser_of c d)).1

most_left : (a b c d : Rational)
    → greater_of a b ≤ℚ greater_of (greater_of a b) (greater_of c d)
most_left a b c d = (order-greater (greater_of a b) (greater_of c d)).0

most_right : (a b c d : Rational)
    → greater_of c d ≤ℚ greater_of (greater_of a b) (greater_of c d)
most_right a b c d = (order-greater (greater_of a b) (greater_of c d)).1

span_low : (a b c d u w v : Rational) → Among a b u → Among c d w → Among u w v
    → lesser_of (lesser_of a b) (lesser_of c d) ≤ℚ v
span_low a b c d u w v h g k =
    let m = lesser_of (lesser_of a b) (lesser_of c d) in
    let one = lesser_of a b in
    let two = lesser_of c d in
    under m u w v
    (under m a b u (order-transitive m one a (least_left a b c d) (order-lesser a b).0)
    (order-transitive m one b (least_left a b c d) (order-lesser a b).1) h.low)
    (under m c d w (order-transitive m two c (least_right a b c d) (order-lesser c d).0)
    (order-transitive m two d (least_right a b c d) (order-lesser c d).1) g.low)
    k.low

span_high : (a b c d u w v : Rational) → Among a b u → Among c d w → Among u w v
    → v ≤ℚ greater_of (greater_of a b) (greater_of c d)
span_high a b c d u w v h g k =
    let m = greater_of (greater_of a b) (greater_of c d) in
    let one = greater_of a b in
    let two = greater_of c d in
    over m u w v
    (over m a b u (order-transitive a one m (order-greater a b).0 (most_left a b c d))
    (order-transitive b one m (order-greater a b).1 (most_left a b c d)) h.high)
    (over m c d w (order-transitive c two m (order-greater c d).0 (most_right a b c d))
    (order-transitive d two m (order-greater c d).1 (most_right a b c d)) g.high)
    k.high

span_holds : (a b c d u w v : Rational) → Among a b u → Among c d w → Among u w v
    → IsTrue (lies_in (spanned a b c d) v)
unfolding spanned
span_holds a b c d u w v h g k =
    in_closed (lesser_of (lesser_of a b) (lesser_of c d))
    (greater_of (greater_of a b) (greater_of c d)) v (span_low a b c d u w v h g k)
    (span_high a b c d u w v h g k)

-- ---- four results that must fit
abbrev fit_by : Bool → Rational → Result Rational Overflow
fit_by b q = if b then Ok q else Err (record {})

corners_by : (i j k l : Bool) (a b c d v : Rational) → IsTrue (lies_in (spanned a b c d) v)
    → IsTrue (lies_in
    (or_line
    (fit_by i a >>= λ m. fit_by j b >>= λ n. fit_by k c >>= λ o. fit_by l d >>= λ p.
    Ok (spanned m n o p)))
    v)
corners_by true true true true a b c d v h = h
corners_by true true true false a b c d v h = refl
corners_by true true false l a b c d v h = refl
corners_by true false k l a b c d v h = refl
corners_by false j k l a b c d v h = refl

corners_hold : (f : Rational → Rational → Rational) (p q r s v : Rational)
    → IsTrue (lies_in (spanned (f p r) (f q r) (f p s) (f q s)) v)
    → IsTrue (lies_in (or_line (by_corners f p q r s)) v)
unfolding checked
corners_hold f p q r s v h =
    corners_by (fits (f p r)) (fits (f q r)) (fits (f p s)) (fits (f q s)) (f p r) (f q r)
    (f p s) (f q s) v h

-- ---- products
product_among_by : (p q x r : Rational) → p ≤ℚ x → x ≤ℚ q → (zero ≤ℚ r) ⊎ (r <ℚ zero)
    → Among (product_of p r) (product_of q r) (product_of x r)
product_among_by p q x r h g (inl e) =
    record { low = inl (products-at_most p x r e h); high = inr (products-at_most x q r e g) }
product_among_by p q x r h g (inr e) =
    let below = order-below_is_at_most r zero e in
    record {
      low = inr (products-turned_at_most x q r below g);
      high = inl (products-turned_at_most p x r below h);
    }

product_among : (p q x r : Rational) → p ≤ℚ x → x ≤ℚ q
    → Among (product_of p r) (product_of q r) (product_of x r)
product_among p q x r h g = product_among_by p q x r h g (order-total zero r)

product_among_right : (x r s y : Rational) → r ≤ℚ y → y ≤ℚ s
    → Among (product_of x r) (product_of x s) (product_of x y)
product_among_right x r s y h g =
    rw (products-commutes x r, products-commutes x s, products-commutes x y)
    (product_among r s y x h g)

product_corners_hold : (p q r s x y : Rational) → p ≤ℚ x → x ≤ℚ q → r ≤ℚ y → y ≤ℚ s
    → IsTrue (lies_in (product_corners p q r s) (product_of x y))
unfolding product_corners
product_corners_hold p q r s x y h g i j =
    corners_hold product_of p q r s (product_of x y)
    (span_holds (product_of p r) (product_of q r) (product_of p s) (product_of q s)
    (product_of x r) (product_of x s) (product_of x y) (product_among p q x r h g)
    (product_among p q x s h g) (product_among_right x r s y i j))

-- ends that are numbers
ends_hold : (corners : Rational → Rational → Rational → Rational → Interval) (v x y : Rational)
    → ((p q r s : Rational) → p ≤ℚ x → x ≤ℚ q → r ≤ℚ y → y ≤ℚ s
    → IsTrue (lies_in (corners p q r s) v))
    → (low high first last : Bound) → IsAbove low x → IsBelow high x → IsAbove first y
    → IsBelow last y
    → IsTrue (lies_in
    (on_ends low high (λ p q. on_ends first last (λ r s. corners p q r s))) v)
ends_hold corners v x y each end.NoBound high first last h g i j = refl
ends_hold corners v x y each (end.Bound p m) end.NoBound first last h g i j = refl
ends_hold corners v x y each (end.Bound p m) (end.Bound q n) end.NoBound last h g i j = refl
ends_hold corners v x y each (end.Bound p m) (end.Bound q n) (end.Bound r k) end.NoBound h g i j =
    refl
ends_hold corners v x y each (end.Bound p m) (end.Bound q n) (end.Bound r k) (end.Bound s l) h g i
    j =
    each p q r s (at_least_of p m x h) (at_most_of q n x g) (at_least_of r k y i)
    (at_most_of s l y j)

pub product_inside : (a b : Interval) (p q : Rational) → IsTrue (lies_in a p)
    → IsTrue (lies_in b q) → IsTrue (lies_in (product_hull a b) (product_of p q))
unfolding product_hull
product_inside a b p q i j =
    let x = (intervals-inside a p).0 i in
    let y = (intervals-inside b q).0 j in
    ends_hold product_corners (product_of p q) p q
    (λ m n r s h g k l. product_corners_hold m n r s p q h g k l) a.low a.high b.low b.high
    x.above x.below y.above y.below

-- ---- quotients
not_same : (p q : Rational) → p <ℚ q → p =ℚ q → ⊥
not_same p q h e = order-apart q p (order-same_is_at_most p q e).1 h

not_same_below : (p q : Rational) → p <ℚ q → q =ℚ p → ⊥
not_same_below p q h e = order-apart q p (order-same_is_at_most q p e).0 h

quotient_among_by : (p q x r : Rational) → p ≤ℚ x → x ≤ℚ q → (zero <ℚ r) ⊎ (r <ℚ zero)
    → Among (quotient_of p r) (quotient_of q r) (quotient_of x r)
quotient_among_by p q x r h g (inl e) =
    record {
      low = inl (products-quotient_at_most p x r e h);
      high = inr (products-quotient_at_most x q r e g);
    }
quotient_among_by p q x r h g (inr e) =
    record {
      low = inr (products-quotient_turned x q r e g);
      high = inl (products-quotient_turned p x r e h);
    }

-- of one dividend over positive divisors
divisor_by : (x r s y : Rational) → zero <ℚ r → r ≤ℚ y → y ≤ℚ s → (zero ≤ℚ x) ⊎ (x <ℚ zero)
    → Among (quotient_of x r) (quotient_of x s) (quotient_of x y)
divisor_by x r s y z h g (inl e) =
    let middle = order-below_at_most zero r y z h in
    let last = order-below_at_most zero y s middle g in
    record {
      low = inr (products-by_greater x y s e middle last g);
      high = inl (products-by_greater x r y e z middle h);
    }
divisor_by x r s y z h g (inr e) =
    let middle = order-below_at_most zero r y z h in
    let last = order-below_at_most zero y s middle g in
    let below = order-below_is_at_most x zero e in
    record {
      low = inl (products-by_greater_turned x r y below z middle h);
      high = inr (products-by_greater_turned x y s below middle last g);
    }

divisor_among : (x r s y : Rational) → zero <ℚ r → r ≤ℚ y → y ≤ℚ s
    → Among (quotient_of x r) (quotient_of x s) (quotient_of x y)
divisor_among x r s y z h g = divisor_by x r s y z h g (order-total zero x)

-- and over negative ones
turned_positive : (s : Rational) → s <ℚ zero → zero <ℚ negation_of s
turned_positive s h =
    order-at_most_below zero (negation_of zero) (negation_of s) turned_zero
    (sums-sign_below s zero h)

divisor_below : (x r s y : Rational) → s <ℚ zero → r ≤ℚ y → y ≤ℚ s
    → Among (quotient_of x r) (quotient_of x s) (quotient_of x y)
divisor_below x r s y z h g =
    let middle = order-at_most_below y s zero g z in
    let first = order-at_most_below r y zero h middle in
    let turned =
    divisor_among (negation_of x) (negation_of s) (negation_of r) (negation_of y)
    (turned_positive s z) (sums-sign_at_most y s g) (sums-sign_at_most r y h) in
    among_turned (quotient_of x s) (quotient_of x r) (quotient_of x y)
    (subst (λ v. Among (quotient_of x s) (quotient_of x r) v)
    (products-quotient_signs x y (not_same y zero middle))
    (subst
    (λ v. Among (quotient_of x s) v (quotient_of (negation_of x) (negation_of y)))
    (products-quotient_signs x r (not_same r zero first))
    (subst
    (λ v.
    Among v (quotient_of (negation_of x) (negation_of r))
    (quotient_of (negation_of x) (negation_of y)))
    (products-quotient_signs x s (not_same s zero z)) turned)))

quotient_span : (p q r s x y : Rational) → p ≤ℚ x → x ≤ℚ q
    → (zero <ℚ r) ⊎ (r <ℚ zero) → (zero <ℚ s) ⊎ (s <ℚ zero)
    → Among (quotient_of x r) (quotient_of x s) (quotient_of x y)
    → IsTrue (lies_in (or_line (by_corners quotient_of p q r s)) (quotient_of x y))
quotient_span p q r s x y h g e f k =
    corners_hold quotient_of p q r s (quotient_of x y)
    (span_holds (quotient_of p r) (quotient_of q r) (quotient_of p s) (quotient_of q s)
    (quotient_of x r) (quotient_of x s) (quotient_of x y) (quotient_among_by p q x r h g e)
    (quotient_among_by p q x s h g f) k)

side_holds : (p q r s x y : Rational) → p ≤ℚ x → x ≤ℚ q → r ≤ℚ y → y ≤ℚ s
    → ((less zero r && less zero s) ≡ true) ⊎ ((less r zero && less s zero) ≡ true)
    → IsTrue (lies_in (or_line (by_corners quotient_of p q r s)) (quotient_of x y))
side_holds p q r s x y h g i j (inl e) =
    let parts = and_parts (less zero r) (less zero s) e in
    let first = (tests-less zero r).0 parts.0 in
    quotient_span p q r s x y h g (inl first) (inl ((tests-less zero s).0 parts.1))
    (divisor_among x r s y first i j)
side_holds p q r s x y h g i j (inr e) =
    let parts = and_parts (less r zero) (less s zero) e in
    let last = (tests-less s zero).0 parts.1 in
    quotient_span p q r s x y h g (inr ((tests-less r zero).0 parts.0)) (inr last)
    (divisor_below x r s y last i j)

quotient_by : (p q r s x y : Rational) → p ≤ℚ x → x ≤ℚ q → r ≤ℚ y → y ≤ℚ s → (b : Bool)
    → ((less zero r && less zero s) || (less r zero && less s zero)) ≡ b
    → IsTrue (lies_in
    (if b then or_line (by_corners quotient_of p q r s)
    else record { low = end.NoBound; high = end.NoBound })
    (quotient_of x y))
quotient_by p q r s x y h g i j true e =
    side_holds p q r s x y h g i j
    (or_cases (less zero r && less zero s) (less r zero && less s zero) e)
quotient_by p q r s x y h g i j false e = refl

quotient_corners_hold : (p q r s x y : Rational) → p ≤ℚ x → x ≤ℚ q → r ≤ℚ y → y ≤ℚ s
    → IsTrue (lies_in (quotient_corners p q r s) (quotient_of x y))
unfolding quotient_corners on_one_side
quotient_corners_hold p q r s x y h g i j =
    quotient_by p q r s x y h g i j
    ((less zero r && less zero s) || (less r zero && less s zero)) refl

pub quotient_inside : (a b : Interval) (p q : Rational) → IsTrue (lies_in a p)
    → IsTrue (lies_in b q) → IsTrue (lies_in (quotient_hull a b) (quotient_of p q))
unfolding quotient_hull
quotient_inside a b p q i j =
    let x = (intervals-inside a p).0 i in
    let y = (intervals-inside b q).0 j in
    ends_hold quotient_corners (quotient_of p q) p q
    (λ m n r s h g k l. quotient_corners_hold m n r s p q h g k l) a.low a.high b.low b.high
    x.above x.below y.above y.below

-- ---- what a derived number lies in
abbrev pub IsDerivedIn : Interval → Derived → Type 0
IsDerivedIn piece (Ok (Some q)) = IsTrue (lies_in piece q)
IsDerivedIn piece (Ok None) = ⊥
IsDerivedIn piece (Err why) = Unit {0}

fitted_by : (piece : Interval) (q : Rational) (b : Bool) → fits q ≡ b → IsTrue (lies_in piece q)
    → IsDerivedIn piece (fitted q)
unfolding fitted
fitted_by piece q true e h = rw e h
fitted_by piece q false e h = rw e tt

pub fitted_in : (piece : Interval) (q : Rational) → IsTrue (lies_in piece q)
    → IsDerivedIn piece (fitted q)
fitted_in piece q h = fitted_by piece q (fits q) refl h

-- ---- powers
power_step : (a hull : Interval) (p : Rational) (d : Derived) → IsTrue (lies_in a p)
    → IsDerivedIn hull d
    → IsDerivedIn (product_hull hull a) (on_number d (λ q. fitted (product_of q p)))
power_step a hull p (Ok (Some q)) i h =
    fitted_in (product_hull hull a) (product_of q p) (product_inside hull a q p h i)
power_step a hull p (Ok None) i h = h
power_step a hull p (Err why) i h = tt

pub power_inside : (a : Interval) (p : Rational) (n : ℕ) → IsTrue (lies_in a p)
    → IsDerivedIn (power_hull a n) (power p n)
unfolding power_hull power
power_inside a p nothing i = in_closed one one one (order-reflexive one) (order-reflexive one)
power_inside a p (suc n) i =
    power_step a (power_hull a n) p (power p n) i (power_inside a p n i)
