-- Sums, differences and negations of members lie in their hulls.
use Rattle.std.proofs.Common.{◌≡◌, Bool, true, false, ◌||◌, Result, Ok, Err, refl, subst}
use Rattle.std.specs.Prelude.{IsTrue, IfOk, if◌then◌else◌}
use Rattle.exact_fraction.specs.Number.{Rational, fits}
use Rattle.exact_fraction.specs.Operations.{sum_of, difference_of, negation_of}
use Rattle.exact_fraction.specs.Order.{◌≤ℚ◌, ◌<ℚ◌}
use Rattle.exact_fraction.specs.Checked.{checked}
use Rattle.exact_fraction.specs.declared.error.Overflow.{Overflow}
use Rattle.exact_fraction.proofs.PublicLaws.{order-below_at_most, order-at_most_below}
use Rattle.exact_fraction.proofs.PublicLaws.{order-below_transitive, order-transitive}
use Rattle.exact_fraction.proofs.PublicLaws.{sums-at_most, sums-below, sums-commutes}
use Rattle.exact_fraction.proofs.PublicLaws.{sums-difference_at_most, sums-difference_below}
use Rattle.exact_fraction.proofs.PublicLaws.{sums-taken_at_most, sums-taken_below}
use Rattle.exact_fraction.proofs.PublicLaws.{sums-sign_at_most, sums-sign_below}
use Rattle.interval_sets.specs.declared.interval.Bound.{Bound}
use Rattle.interval_sets.specs.declared.interval.Bound.TheVariants as end
use Rattle.interval_sets.specs.declared.interval.Interval.{Interval}
use Rattle.interval_sets.specs.Intervals.{lies_in, IsAbove, IsBelow, IsInside}
use Rattle.interval_sets.proofs.PublicLaws.{intervals-inside}
use Rattle.rule_meaning.specs.CheckedSteps.{◌>>=◌}
use Rattle.verdict_meaning.specs.Hulls.{end_by, sum_end, difference_end, between_ends, or_line}
use Rattle.verdict_meaning.specs.Hulls.{sum_hull, difference_hull, turned, negation_hull}

-- ---- a step that must fit
abbrev fit_by : Bool → Rational → Result Rational Overflow
fit_by b q = if b then Ok q else Err (record {})

step_by : (b : Bool) (q : Rational) (f : Rational → Bound) (P : Bound → Type 0) → P (f q)
    → IfOk (fit_by b q >>= λ r. Ok (f r)) P
step_by true q f P h = h
step_by false q f P h = tt

pub fitting_end : (q : Rational) (f : Rational → Bound) (P : Bound → Type 0) → P (f q)
    → IfOk (checked q >>= λ r. Ok (f r)) P
unfolding checked
fitting_end q f P h = step_by (fits q) q f P h

-- between two ends that hold a number, or on the whole line
pub pieced : (low high : Result Bound Overflow) (r : Rational) → IfOk low (λ one. IsAbove one r)
    → IfOk high (λ one. IsBelow one r) → IsInside (or_line (between_ends low high)) r
pieced (Ok low) (Ok high) r h g = record { above = h; below = g }
pieced (Ok low) (Err why) r h g = record { above = tt; below = tt }
pieced (Err why) high r h g = record { above = tt; below = tt }

-- ---- sums
right_at_most : (p q r : Rational) → q ≤ℚ r → sum_of p q ≤ℚ sum_of p r
right_at_most p q r h =
    subst (λ u. u ≤ℚ sum_of p r) (sums-commutes q p)
    (subst (λ u. sum_of q p ≤ℚ u) (sums-commutes r p) (sums-at_most q r p h))

right_below : (p q r : Rational) → q <ℚ r → sum_of p q <ℚ sum_of p r
right_below p q r h =
    subst (λ u. u <ℚ sum_of p r) (sums-commutes q p)
    (subst (λ u. sum_of q p <ℚ u) (sums-commutes r p) (sums-below q r p h))

sum_above : (a b : Bound) (p q : Rational) → IsAbove a p → IsAbove b q
    → IfOk (sum_end a b) (λ one. IsAbove one (sum_of p q))
unfolding sum_end
sum_above end.NoBound b p q h g = tt
sum_above (end.Bound m f) end.NoBound p q h g = tt
sum_above (end.Bound m true) (end.Bound n true) p q h g =
    fitting_end (sum_of m n) (λ r. end.Bound r true) (λ one. IsAbove one (sum_of p q))
    (order-below_transitive (sum_of m n) (sum_of p n) (sum_of p q) (sums-below m p n h)
    (right_below p n q g))
sum_above (end.Bound m true) (end.Bound n false) p q h g =
    fitting_end (sum_of m n) (λ r. end.Bound r true) (λ one. IsAbove one (sum_of p q))
    (order-below_at_most (sum_of m n) (sum_of p n) (sum_of p q) (sums-below m p n h)
    (right_at_most p n q g))
sum_above (end.Bound m false) (end.Bound n true) p q h g =
    fitting_end (sum_of m n) (λ r. end.Bound r true) (λ one. IsAbove one (sum_of p q))
    (order-at_most_below (sum_of m n) (sum_of p n) (sum_of p q) (sums-at_most m p n h)
    (right_below p n q g))
sum_above (end.Bound m false) (end.Bound n false) p q h g =
    fitting_end (sum_of m n) (λ r. end.Bound r false) (λ one. IsAbove one (sum_of p q))
    (order-transitive (sum_of m n) (sum_of p n) (sum_of p q) (sums-at_most m p n h)
    (right_at_most p n q g))

sum_below : (a b : Bound) (p q : Rational) → IsBelow a p → IsBelow b q
    → IfOk (sum_end a b) (λ one. IsBelow one (sum_of p q))
unfolding sum_end
sum_below end.NoBound b p q h g = tt
sum_below (end.Bound m f) end.NoBound p q h g = tt
sum_below (end.Bound m true) (end.Bound n true) p q h g =
    fitting_end (sum_of m n) (λ r. end.Bound r true) (λ one. IsBelow one (sum_of p q))
    (order-below_transitive (sum_of p q) (sum_of p n) (sum_of m n) (right_below p q n g)
    (sums-below p m n h))
sum_below (end.Bound m true) (end.Bound n false) p q h g =
    fitting_end (sum_of m n) (λ r. end.Bound r true) (λ one. IsBelow one (sum_of p q))
    (order-at_most_below (sum_of p q) (sum_of p n) (sum_of m n) (right_at_most p q n g)
    (sums-below p m n h))
sum_below (end.Bound m false) (end.Bound n true) p q h g =
    fitting_end (sum_of m n) (λ r. end.Bound r true) (λ one. IsBelow one (sum_of p q))
    (order-below_at_most (sum_of p q) (sum_of p n) (sum_of m n) (right_below p q n g)
    (sums-at_most p m n h))
sum_below (end.Bound m false) (end.Bound n false) p q h g =
    fitting_end (sum_of m n) (λ r. end.Bound r false) (λ one. IsBelow one (sum_of p q))
    (order-transitive (sum_of p q) (sum_of p n) (sum_of m n) (right_at_most p q n g)
    (sums-at_most p m n h))

pub sum_inside : (a b : Interval) (p q : Rational) → IsTrue (lies_in a p) → IsTrue (lies_in b q)
    → IsTrue (lies_in (sum_hull a b) (sum_of p q))
unfolding sum_hull
sum_inside a b p q i j =
    let x = (intervals-inside a p).0 i in
    let y = (intervals-inside b q).0 j in
    (intervals-inside
    (or_line (between_ends (sum_end a.low b.low) (sum_end a.high b.high))) (sum_of p q)).1
    (pieced (sum_end a.low b.low) (sum_end a.high b.high) (sum_of p q)
    (sum_above a.low b.low p q x.above y.above) (sum_below a.high b.high p q x.below y.below))

-- ---- differences
difference_above : (a b : Bound) (p q : Rational) → IsAbove a p → IsBelow b q
    → IfOk (difference_end a b) (λ one. IsAbove one (difference_of p q))
unfolding difference_end
difference_above end.NoBound b p q h g = tt
difference_above (end.Bound m f) end.NoBound p q h g = tt
difference_above (end.Bound m true) (end.Bound n true) p q h g =
    fitting_end (difference_of m n) (λ r. end.Bound r true)
    (λ one. IsAbove one (difference_of p q))
    (order-below_transitive (difference_of m n) (difference_of p n) (difference_of p q)
    (sums-difference_below m p n h) (sums-taken_below q n p g))
difference_above (end.Bound m true) (end.Bound n false) p q h g =
    fitting_end (difference_of m n) (λ r. end.Bound r true)
    (λ one. IsAbove one (difference_of p q))
    (order-below_at_most (difference_of m n) (difference_of p n) (difference_of p q)
    (sums-difference_below m p n h) (sums-taken_at_most q n p g))
difference_above (end.Bound m false) (end.Bound n true) p q h g =
    fitting_end (difference_of m n) (λ r. end.Bound r true)
    (λ one. IsAbove one (difference_of p q))
    (order-at_most_below (difference_of m n) (difference_of p n) (difference_of p q)
    (sums-difference_at_most m p n h) (sums-taken_below q n p g))
difference_above (end.Bound m false) (end.Bound n false) p q h g =
    fitting_end (difference_of m n) (λ r. end.Bound r false)
    (λ one. IsAbove one (difference_of p q))
    (order-transitive (difference_of m n) (difference_of p n) (difference_of p q)
    (sums-difference_at_most m p n h) (sums-taken_at_most q n p g))

difference_below : (a b : Bound) (p q : Rational) → IsBelow a p → IsAbove b q
    → IfOk (difference_end a b) (λ one. IsBelow one (difference_of p q))
unfolding difference_end
difference_below end.NoBound b p q h g = tt
difference_below (end.Bound m f) end.NoBound p q h g = tt
difference_below (end.Bound m true) (end.Bound n true) p q h g =
    fitting_end (difference_of m n) (λ r. end.Bound r true)
    (λ one. IsBelow one (difference_of p q))
    (order-below_transitive (difference_of p q) (difference_of p n) (difference_of m n)
    (sums-taken_below n q p g) (sums-difference_below p m n h))
difference_below (end.Bound m true) (end.Bound n false) p q h g =
    fitting_end (difference_of m n) (λ r. end.Bound r true)
    (λ one. IsBelow one (difference_of p q))
    (order-at_most_below (difference_of p q) (difference_of p n) (difference_of m n)
    (sums-taken_at_most n q p g) (sums-difference_below p m n h))
difference_below (end.Bound m false) (end.Bound n true) p q h g =
    fitting_end (difference_of m n) (λ r. end.Bound r true)
    (λ one. IsBelow one (difference_of p q))
    (order-below_at_most (difference_of p q) (difference_of p n) (difference_of m n)
    (sums-taken_below n q p g) (sums-difference_at_most p m n h))
difference_below (end.Bound m false) (end.Bound n false) p q h g =
    fitting_end (difference_of m n) (λ r. end.Bound r false)
    (λ one. IsBelow one (difference_of p q))
    (order-transitive (difference_of p q) (difference_of p n) (difference_of m n)
    (sums-taken_at_most n q p g) (sums-difference_at_most p m n h))

pub difference_inside : (a b : Interval) (p q : Rational) → IsTrue (lies_in a p)
    → IsTrue (lies_in b q) → IsTrue (lies_in (difference_hull a b) (difference_of p q))
unfolding difference_hull
difference_inside a b p q i j =
    let x = (intervals-inside a p).0 i in
    let y = (intervals-inside b q).0 j in
    (intervals-inside
    (or_line (between_ends (difference_end a.low b.high) (difference_end a.high b.low)))
    (difference_of p q)).1
    (pieced (difference_end a.low b.high) (difference_end a.high b.low) (difference_of p q)
    (difference_above a.low b.high p q x.above y.below)
    (difference_below a.high b.low p q x.below y.above))

-- ---- negations
turned_above : (high : Bound) (p : Rational) → IsBelow high p
    → IsAbove (turned high) (negation_of p)
turned_above end.NoBound p h = tt
turned_above (end.Bound m true) p h = sums-sign_below p m h
turned_above (end.Bound m false) p h = sums-sign_at_most p m h

pub turned_below : (low : Bound) (p : Rational) → IsAbove low p → IsBelow (turned low) (negation_of p)
turned_below end.NoBound p h = tt
turned_below (end.Bound m true) p h = sums-sign_below m p h
turned_below (end.Bound m false) p h = sums-sign_at_most m p h

pub negation_inside : (a : Interval) (p : Rational) → IsTrue (lies_in a p)
    → IsTrue (lies_in (negation_hull a) (negation_of p))
unfolding negation_hull
negation_inside a p i =
    let x = (intervals-inside a p).0 i in
    (intervals-inside (record { low = turned a.high; high = turned a.low }) (negation_of p)).1
    (record { above = turned_above a.high p x.below; below = turned_below a.low p x.above })
