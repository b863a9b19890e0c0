-- Sizes, signs and steps of members lie in their hulls.
use Rattle.std.proofs.Common.{◌≡◌, Bool, true, false, ◌&&◌, ◌||◌, refl, sym, subst, ◌∙◌}
use Rattle.std.specs.Prelude.{IsTrue, if◌then◌else◌}
use Rattle.std.proofs.lemmas.Bool.{true≢false, or_parts, and_from}
use Rattle.exact_fraction.specs.Number.{Rational, den, one, whole, zero}
use Rattle.exact_fraction.specs.Operations.{negation_of}
use Rattle.exact_fraction.specs.Order.{◌≤ℚ◌, ◌<ℚ◌, less}
use Rattle.exact_fraction.proofs.PublicLaws.{order-transitive, order-reflexive, tests-less}
use Rattle.exact_fraction.proofs.PublicLaws.{tests-not_less, order-below_is_at_most}
use Rattle.exact_fraction.proofs.PublicLaws.{sums-sign_at_most}
use Rattle.interval_sets.specs.declared.interval.Bound.{Bound}
use Rattle.interval_sets.specs.declared.interval.Bound.TheVariants as end
use Rattle.interval_sets.specs.declared.interval.Interval.{Interval}
use Rattle.interval_sets.specs.Intervals.{is_below, later_high, lies_in, IsAbove, IsBelow, IsInside}
use Rattle.interval_sets.proofs.PublicLaws.{intervals-inside, intervals-convex, ends-later_high}
use Rattle.interval_sets.proofs.PublicLaws.{ends-below}
use Rattle.rule_meaning.specs.Formula.{sign_of, size_of, step_of}
use Rattle.verdict_meaning.specs.Hulls.{begins_below_zero, closed, ends_above_zero, greatest_sign}
use Rattle.verdict_meaning.specs.Hulls.{greatest_step, least_sign, least_step, negation_hull}
use Rattle.verdict_meaning.specs.Hulls.{sign_hull, size_hull, step_hull, turned}
use Rattle.verdict_meaning.proofs.HullSums.{negation_inside, turned_below}
use Rattle.verdict_meaning.proofs.Relations.{at_least_of, at_most_of}
use Rattle.verdict_meaning.proofs.Tests.{or_left, or_right}

-- ---- on which side of 0 the members are
pub begins_tells : (low : Bound) (p : Rational) → begins_below_zero low ≡ false → IsAbove low p
    → zero ≤ℚ p
unfolding begins_below_zero
begins_tells end.NoBound p e h = absurd (true≢false e)
begins_tells (end.Bound m f) p e h =
    order-transitive zero m p ((tests-not_less m zero).0 e) (at_least_of m f p h)

pub ends_tells : (high : Bound) (p : Rational) → ends_above_zero high ≡ false → IsBelow high p
    → p ≤ℚ zero
unfolding ends_above_zero
ends_tells end.NoBound p e h = absurd (true≢false e)
ends_tells (end.Bound m f) p e h =
    order-transitive p m zero (at_most_of m f p h) ((tests-not_less zero m).0 e)

-- a number is in an interval where one that is the same is
pub same_lies : (piece : Interval) (p q : Rational) → p ≤ℚ q → q ≤ℚ p → IsTrue (lies_in piece p)
    → IsTrue (lies_in piece q)
same_lies piece p q h g i = intervals-convex piece p q p i i h g

zero_turned : negation_of zero ≤ℚ zero
unfolding negation_of den whole
zero_turned = order-reflexive zero

pub turned_zero : zero ≤ℚ negation_of zero
unfolding negation_of den whole
turned_zero = order-reflexive zero

turned_up : (p : Rational) → p ≤ℚ zero → zero ≤ℚ negation_of p
turned_up p h =
    order-transitive zero (negation_of zero) (negation_of p) turned_zero
    (sums-sign_at_most p zero h)

turned_down : (p : Rational) → zero ≤ℚ p → negation_of p ≤ℚ zero
turned_down p h =
    order-transitive (negation_of p) (negation_of zero) zero (sums-sign_at_most zero p h)
    zero_turned

-- ---- sizes
size_negative : (a : Interval) (p : Rational) (b : Bool) → less p zero ≡ b → p ≤ℚ zero
    → IsTrue (lies_in a p)
    → IsTrue (lies_in (negation_hull a) (if b then negation_of p else p))
size_negative a p true e h i = negation_inside a p i
size_negative a p false e h i =
    let at_least = (tests-not_less p zero).0 e in
    same_lies (negation_hull a) (negation_of p) p
    (order-transitive (negation_of p) zero p (turned_down p at_least) at_least)
    (order-transitive p zero (negation_of p) h (turned_up p h)) (negation_inside a p i)

size_at_least : (p : Rational) (b : Bool) → less p zero ≡ b
    → zero ≤ℚ (if b then negation_of p else p)
size_at_least p true e = turned_up p (order-below_is_at_most p zero ((tests-less p zero).0 e))
size_at_least p false e = (tests-not_less p zero).0 e

size_under : (a : Interval) (p : Rational) (b : Bool) → IsTrue (lies_in a p)
    → is_below (later_high (turned a.low) a.high) (if b then negation_of p else p) ≡ true
size_under a p true i =
    ends-later_high (turned a.low) a.high (negation_of p)
    ∙ or_left (is_below (turned a.low) (negation_of p)) (is_below a.high (negation_of p))
    ((ends-below (turned a.low) (negation_of p)).1
    (turned_below a.low p ((intervals-inside a p).0 i).above))
size_under a p false i =
    ends-later_high (turned a.low) a.high p
    ∙ or_right (is_below (turned a.low) p) (is_below a.high p)
    ((ends-below a.high p).1 ((intervals-inside a p).0 i).below)

size_across : (a : Interval) (p : Rational) (b : Bool) → less p zero ≡ b → IsTrue (lies_in a p)
    → IsTrue (lies_in
    (record { low = end.Bound zero false; high = later_high (turned a.low) a.high })
    (if b then negation_of p else p))
size_across a p b e i =
    let size = if b then negation_of p else p in
    let high = later_high (turned a.low) a.high in
    (intervals-inside (record { low = end.Bound zero false; high = high }) size).1
    (record {
      above = size_at_least p b e;
      below = (ends-below high size).0 (size_under a p b i);
    })

size_by : (a : Interval) (p : Rational) (begins ends : Bool) → begins_below_zero a.low ≡ begins
    → ends_above_zero a.high ≡ ends → IsTrue (lies_in a p)
    → IsTrue (lies_in
    (if begins
    then (
    if ends
    then record { low = end.Bound zero false; high = later_high (turned a.low) a.high }
    else negation_hull a)
    else a)
    (if less p zero then negation_of p else p))
size_by a p true true e g i = size_across a p (less p zero) refl i
size_by a p true false e g i =
    size_negative a p (less p zero) refl
    (ends_tells a.high p g ((intervals-inside a p).0 i).below) i
size_by a p false ends e g i =
    let not_below =
    (tests-not_less p zero).1 (begins_tells a.low p e ((intervals-inside a p).0 i).above) in
    subst (λ b. IsTrue (lies_in a (if b then negation_of p else p))) (sym not_below) i

pub size_inside : (a : Interval) (p : Rational) → IsTrue (lies_in a p)
    → IsTrue (lies_in (size_hull a) (size_of p))
unfolding size_hull size_of
size_inside a p i =
    size_by a p (begins_below_zero a.low) (ends_above_zero a.high) refl refl i

-- ---- -1, 0 and 1
minus_zero : negation_of one ≤ℚ zero
unfolding negation_of less den whole
minus_zero = (tests-not_less zero (negation_of one)).0 refl

pub zero_one : zero ≤ℚ one
unfolding less den whole
zero_one = (tests-not_less one zero).0 refl

minus_one : negation_of one ≤ℚ one
minus_one = order-transitive (negation_of one) zero one minus_zero zero_one

-- a number that is not 0, where 0 does not lie in its interval
pub not_zero_above : (a : Interval) (p : Rational) → zero ≤ℚ p → IsTrue (lies_in a p)
    → lies_in a zero ≡ false → (b : Bool) → less zero p ≡ b → b ≡ true
not_zero_above a p h i none true e = refl
not_zero_above a p h i none false e =
    absurd
    (true≢false
    (sym (same_lies a p zero ((tests-not_less zero p).0 e) h i) ∙ none))

pub not_zero_below : (a : Interval) (p : Rational) → p ≤ℚ zero → IsTrue (lies_in a p)
    → lies_in a zero ≡ false → (b : Bool) → less p zero ≡ b → b ≡ true
not_zero_below a p h i none true e = refl
not_zero_below a p h i none false e =
    absurd
    (true≢false
    (sym (same_lies a p zero h ((tests-not_less p zero).0 e) i) ∙ none))

-- ---- signs
sign_number : Bool → Bool → Rational
sign_number below above = if below then negation_of one else (if above then one else zero)

sign_from_minus : (below above : Bool) → negation_of one ≤ℚ sign_number below above
unfolding sign_number
sign_from_minus true above = order-reflexive (negation_of one)
sign_from_minus false true = minus_one
sign_from_minus false false = minus_zero

sign_to_one : (below above : Bool) → sign_number below above ≤ℚ one
unfolding sign_number
sign_to_one true above = minus_one
sign_to_one false true = order-reflexive one
sign_to_one false false = zero_one

sign_from_zero : (below above : Bool) → below ≡ false → zero ≤ℚ sign_number below above
unfolding sign_number
sign_from_zero true above e = absurd (true≢false e)
sign_from_zero false true e = zero_one
sign_from_zero false false e = order-reflexive zero

sign_to_zero : (below above : Bool) → above ≡ false → sign_number below above ≤ℚ zero
unfolding sign_number
sign_to_zero true above e = minus_zero
sign_to_zero false true e = absurd (true≢false e)
sign_to_zero false false e = order-reflexive zero

sign_of_above : (below above : Bool) → below ≡ false → above ≡ true
    → sign_number below above ≡ one
unfolding sign_number
sign_of_above below above e g = rw (e, g) refl

sign_of_below : (below above : Bool) → below ≡ true → sign_number below above ≡ negation_of one
unfolding sign_number
sign_of_below below above e = rw e refl

equal_at_most : (p q : Rational) → p ≡ q → p ≤ℚ q
equal_at_most p q e = subst (λ r. p ≤ℚ r) e (order-reflexive p)

least_by : (a : Interval) (p : Rational) (begins has : Bool) → begins_below_zero a.low ≡ begins
    → lies_in a zero ≡ has → IsTrue (lies_in a p)
    → (if begins then negation_of one else (if has then zero else one))
    ≤ℚ sign_number (less p zero) (less zero p)
least_by a p true has e g i = sign_from_minus (less p zero) (less zero p)
least_by a p false true e g i =
    sign_from_zero (less p zero) (less zero p)
    ((tests-not_less p zero).1 (begins_tells a.low p e ((intervals-inside a p).0 i).above))
least_by a p false false e g i =
    let at_least = begins_tells a.low p e ((intervals-inside a p).0 i).above in
    equal_at_most one (sign_number (less p zero) (less zero p))
    (sym
    (sign_of_above (less p zero) (less zero p) ((tests-not_less p zero).1 at_least)
    (not_zero_above a p at_least i g (less zero p) refl)))

greatest_by : (a : Interval) (p : Rational) (ends has : Bool) → ends_above_zero a.high ≡ ends
    → lies_in a zero ≡ has → IsTrue (lies_in a p)
    → sign_number (less p zero) (less zero p)
    ≤ℚ (if ends then one else (if has then zero else negation_of one))
greatest_by a p true has e g i = sign_to_one (less p zero) (less zero p)
greatest_by a p false true e g i =
    sign_to_zero (less p zero) (less zero p)
    ((tests-not_less zero p).1 (ends_tells a.high p e ((intervals-inside a p).0 i).below))
greatest_by a p false false e g i =
    let at_most = ends_tells a.high p e ((intervals-inside a p).0 i).below in
    equal_at_most (sign_number (less p zero) (less zero p)) (negation_of one)
    (sign_of_below (less p zero) (less zero p)
    (not_zero_below a p at_most i g (less p zero) refl))

least_sign_is : (a : Interval) (p : Rational) → IsTrue (lies_in a p) → least_sign a ≤ℚ sign_of p
unfolding least_sign sign_of sign_number
least_sign_is a p i =
    least_by a p (begins_below_zero a.low) (lies_in a zero) refl refl i

greatest_sign_is : (a : Interval) (p : Rational) → IsTrue (lies_in a p)
    → sign_of p ≤ℚ greatest_sign a
unfolding greatest_sign sign_of sign_number
greatest_sign_is a p i =
    greatest_by a p (ends_above_zero a.high) (lies_in a zero) refl refl i

pub in_closed : (p q r : Rational) → p ≤ℚ r → r ≤ℚ q → IsTrue (lies_in (closed p q) r)
in_closed p q r h g =
    (intervals-inside (closed p q) r).1 (record { above = h; below = g })

pub sign_inside : (a : Interval) (p : Rational) → IsTrue (lies_in a p)
    → IsTrue (lies_in (sign_hull a) (sign_of p))
unfolding sign_hull
sign_inside a p i =
    in_closed (least_sign a) (greatest_sign a) (sign_of p) (least_sign_is a p i)
    (greatest_sign_is a p i)

-- ---- steps
step_from_zero : (above : Bool) → zero ≤ℚ (if above then one else zero)
step_from_zero true = zero_one
step_from_zero false = order-reflexive zero

step_to_one : (above : Bool) → (if above then one else zero) ≤ℚ one
step_to_one true = order-reflexive one
step_to_one false = zero_one

least_step_by : (a : Interval) (p : Rational) (b : Bool)
    → (begins_below_zero a.low || lies_in a zero) ≡ b → IsTrue (lies_in a p)
    → (if b then zero else one) ≤ℚ (if less zero p then one else zero)
least_step_by a p true e i = step_from_zero (less zero p)
least_step_by a p false e i =
    let parts = or_parts (begins_below_zero a.low) (lies_in a zero) e in
    let above =
    not_zero_above a p (begins_tells a.low p parts.0 ((intervals-inside a p).0 i).above) i
    parts.1 (less zero p) refl in
    subst (λ c. one ≤ℚ (if c then one else zero)) (sym above) (order-reflexive one)

greatest_step_by : (a : Interval) (p : Rational) (b : Bool) → ends_above_zero a.high ≡ b
    → IsTrue (lies_in a p)
    → (if less zero p then one else zero) ≤ℚ (if b then one else zero)
greatest_step_by a p true e i = step_to_one (less zero p)
greatest_step_by a p false e i =
    let below =
    (tests-not_less zero p).1 (ends_tells a.high p e ((intervals-inside a p).0 i).below) in
    subst (λ c. (if c then one else zero) ≤ℚ zero) (sym below) (order-reflexive zero)

least_step_is : (a : Interval) (p : Rational) → IsTrue (lies_in a p) → least_step a ≤ℚ step_of p
unfolding least_step step_of
least_step_is a p i =
    least_step_by a p (begins_below_zero a.low || lies_in a zero) refl i

greatest_step_is : (a : Interval) (p : Rational) → IsTrue (lies_in a p)
    → step_of p ≤ℚ greatest_step a
unfolding greatest_step step_of
greatest_step_is a p i = greatest_step_by a p (ends_above_zero a.high) refl i

pub step_inside : (a : Interval) (p : Rational) → IsTrue (lies_in a p)
    → IsTrue (lies_in (step_hull a) (step_of p))
unfolding step_hull
step_inside a p i =
    in_closed (least_step a) (greatest_step a) (step_of p) (least_step_is a p i)
    (greatest_step_is a p i)
