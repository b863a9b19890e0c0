-- Relations between all members of two intervals.
use Rattle.std.proofs.Common.{◌≡◌, Bool, true, false, not, ◌&&◌, ◌||◌, ◌⊎◌, inl, inr, refl, sym}
use Rattle.std.specs.Prelude.{if◌then◌else◌}
use Rattle.std.specs.Prelude.{IsTrue}
use Rattle.std.proofs.lemmas.Bool.{and_parts, and_from, not-true, not_from_false, true≢false}
use Rattle.exact_fraction.specs.Number.{Rational}
use Rattle.exact_fraction.specs.Operations.{sum_of, difference_of}
use Rattle.exact_fraction.specs.Order.{◌≤ℚ◌, ◌<ℚ◌, less, same}
use Rattle.exact_fraction.specs.Relations.{relates}
use Rattle.exact_fraction.specs.declared.relation.Relation.{Relation}
use Rattle.exact_fraction.specs.declared.relation.Relation.TheVariants.{Eq, Ne, Lt, Le, Gt, Ge}
use Rattle.exact_fraction.proofs.PublicLaws.{order-below_at_most, order-at_most_below}
use Rattle.exact_fraction.proofs.PublicLaws.{order-below_transitive, order-transitive, tests-less}
use Rattle.exact_fraction.proofs.PublicLaws.{order-below_is_at_most, tests-not_less, tests-same}
use Rattle.exact_fraction.proofs.PublicLaws.{order-antisymmetric, order-apart, tests-unequal}
use Rattle.exact_fraction.proofs.PublicLaws.{order-same_is_at_most, tests-at_most, tests-at_least}
use Rattle.exact_fraction.proofs.PublicLaws.{sums-at_most, sums-below, sums-difference_at_most}
use Rattle.exact_fraction.proofs.PublicLaws.{sums-difference_below}
use Rattle.interval_sets.specs.declared.interval.Bound.{Bound}
use Rattle.interval_sets.specs.declared.interval.Bound.TheVariants as end
use Rattle.interval_sets.specs.declared.interval.Interval.{Interval}
use Rattle.interval_sets.specs.Intervals.{lies_in, IsAbove, IsBelow, IsInside}
use Rattle.interval_sets.proofs.PublicLaws.{intervals-inside}
use Rattle.rule_meaning.specs.Condition.{half_of, is_within, time_relates}
use Rattle.verdict_meaning.specs.Truths.{ends_below, ends_at_most, all_relate, contrary, later_by}
use Rattle.verdict_meaning.specs.Truths.{earlier_by, all_within, none_within, all_times_relate}
use Rattle.verdict_meaning.specs.Truths.{all_meet, none_meet}
use Rattle.verdict_meaning.proofs.Tests.{or_cases, or_left, or_right}

not_less : (p q : Rational) → not (less p q) ≡ true → q ≤ℚ p
not_less p q h = (tests-not_less p q).0 (not-true (less p q) h)

at_most_test : (p q : Rational) → q ≤ℚ p → not (less p q) ≡ true
at_most_test p q h = not_from_false (less p q) ((tests-not_less p q).1 h)

pub below_tells : (high low : Bound) (p q : Rational) → ends_below high low ≡ true
    → IsBelow high p → IsAbove low q → p <ℚ q
unfolding ends_below
below_tells end.NoBound low p q h b a = absurd (true≢false (sym h))
below_tells (end.Bound m f) end.NoBound p q h b a = absurd (true≢false (sym h))
below_tells (end.Bound m true) (end.Bound n true) p q h b a =
    order-below_transitive p n q (order-below_at_most p m n b (not_less n m h)) a
below_tells (end.Bound m true) (end.Bound n false) p q h b a =
    order-below_at_most p n q (order-below_at_most p m n b (not_less n m h)) a
below_tells (end.Bound m false) (end.Bound n true) p q h b a =
    order-at_most_below p n q (order-transitive p m n b (not_less n m h)) a
below_tells (end.Bound m false) (end.Bound n false) p q h b a =
    order-below_at_most p n q (order-at_most_below p m n b ((tests-less m n).0 h)) a

pub at_most_of : (m : Rational) (f : Bool) (p : Rational) → IsBelow (end.Bound m f) p → p ≤ℚ m
at_most_of m true p h = order-below_is_at_most p m h
at_most_of m false p h = h

pub at_least_of : (n : Rational) (f : Bool) (q : Rational) → IsAbove (end.Bound n f) q → n ≤ℚ q
at_least_of n true q h = order-below_is_at_most n q h
at_least_of n false q h = h

pub at_most_tells : (high low : Bound) (p q : Rational) → ends_at_most high low ≡ true
    → IsBelow high p → IsAbove low q → p ≤ℚ q
unfolding ends_at_most
at_most_tells end.NoBound low p q h b a = absurd (true≢false (sym h))
at_most_tells (end.Bound m f) end.NoBound p q h b a = absurd (true≢false (sym h))
at_most_tells (end.Bound m f) (end.Bound n g) p q h b a =
    order-transitive p n q (order-transitive p m n (at_most_of m f p b) (not_less n m h))
    (at_least_of n g q a)

unequal_below : (p q : Rational) → p <ℚ q → not (same p q) ≡ true
unequal_below p q h =
    (tests-unequal p q).1 (λ e. order-apart q p (order-same_is_at_most p q e).1 h)

unequal_above : (p q : Rational) → q <ℚ p → not (same p q) ≡ true
unequal_above p q h =
    (tests-unequal p q).1 (λ e. order-apart p q (order-same_is_at_most p q e).0 h)

unequal_by : (a b : Interval) (p q : Rational) → IsInside a p → IsInside b q
    → (ends_below a.high b.low ≡ true) ⊎ (ends_below b.high a.low ≡ true)
    → not (same p q) ≡ true
unequal_by a b p q i j (inl h) = unequal_below p q (below_tells a.high b.low p q h i.below j.above)
unequal_by a b p q i j (inr h) = unequal_above p q (below_tells b.high a.low q p h j.below i.above)

relate_inside : (relation : Relation) (a b : Interval) (p q : Rational)
    → all_relate relation a b ≡ true → IsInside a p → IsInside b q → relates relation p q ≡ true
unfolding all_relate
relate_inside Eq a b p q h i j =
    let parts = and_parts (ends_at_most a.high b.low) (ends_at_most b.high a.low) h in
    (tests-same p q).1
    (order-antisymmetric p q (at_most_tells a.high b.low p q parts.0 i.below j.above)
    (at_most_tells b.high a.low q p parts.1 j.below i.above))
relate_inside Ne a b p q h i j =
    unequal_by a b p q i j (or_cases (ends_below a.high b.low) (ends_below b.high a.low) h)
relate_inside Lt a b p q h i j =
    (tests-less p q).1 (below_tells a.high b.low p q h i.below j.above)
relate_inside Le a b p q h i j =
    at_most_test q p (at_most_tells a.high b.low p q h i.below j.above)
relate_inside Gt a b p q h i j =
    (tests-less q p).1 (below_tells b.high a.low q p h j.below i.above)
relate_inside Ge a b p q h i j =
    at_most_test p q (at_most_tells b.high a.low q p h j.below i.above)

-- the contrary relation holds where a relation does not
not_not : (b : Bool) → not b ≡ true → b ≡ false
not_not b h = not-true b h

is_not : (b : Bool) → b ≡ true → not b ≡ false
is_not b h = rw h refl

contrary_fails : (relation : Relation) (p q : Rational) → relates (contrary relation) p q ≡ true
    → relates relation p q ≡ false
contrary_fails Eq p q h = not_not (same p q) h
contrary_fails Ne p q h = is_not (same p q) h
contrary_fails Lt p q h = not_not (less p q) h
contrary_fails Le p q h = is_not (less q p) h
contrary_fails Gt p q h = not_not (less q p) h
contrary_fails Ge p q h = is_not (less p q) h

-- ---- half steps
below_earlier : (half : Rational) (high : Bound) (q : Rational) → IsBelow high q
    → IsBelow (earlier_by half high) (difference_of q half)
below_earlier half end.NoBound q h = tt
below_earlier half (end.Bound m true) q h = sums-difference_below q m half h
below_earlier half (end.Bound m false) q h = sums-difference_at_most q m half h

above_earlier : (half : Rational) (low : Bound) (q : Rational) → IsAbove low q
    → IsAbove (earlier_by half low) (difference_of q half)
above_earlier half end.NoBound q h = tt
above_earlier half (end.Bound m true) q h = sums-difference_below m q half h
above_earlier half (end.Bound m false) q h = sums-difference_at_most m q half h

below_later : (half : Rational) (high : Bound) (q : Rational) → IsBelow high q
    → IsBelow (later_by half high) (sum_of q half)
below_later half end.NoBound q h = tt
below_later half (end.Bound m true) q h = sums-below q m half h
below_later half (end.Bound m false) q h = sums-at_most q m half h

above_later : (half : Rational) (low : Bound) (q : Rational) → IsAbove low q
    → IsAbove (later_by half low) (sum_of q half)
above_later half end.NoBound q h = tt
above_later half (end.Bound m true) q h = sums-below m q half h
above_later half (end.Bound m false) q h = sums-at_most m q half h

within_inside : (a b : Interval) (half p q : Rational) → all_within a b half ≡ true
    → IsInside a p → IsInside b q → is_within p q half ≡ true
unfolding all_within is_within
within_inside a b half p q h i j =
    let parts =
    and_parts (ends_at_most (earlier_by half b.high) a.low)
    (ends_below a.high (later_by half b.low)) h in
    and_from (not (less p (difference_of q half))) (less p (sum_of q half))
    (at_most_test p (difference_of q half)
    (at_most_tells (earlier_by half b.high) a.low (difference_of q half) p parts.0
    (below_earlier half b.high q j.below) i.above))
    ((tests-less p (sum_of q half)).1
    (below_tells a.high (later_by half b.low) p (sum_of q half) parts.1 i.below
    (above_later half b.low q j.above)))

not_before : (p q half : Rational) → p <ℚ difference_of q half → is_within p q half ≡ false
unfolding is_within
not_before p q half h =
    let early : less p (difference_of q half) ≡ true = (tests-less p (difference_of q half)).1 h in
    rw early refl

and_false : (a b : Bool) → b ≡ false → (a && b) ≡ false
and_false true b h = h
and_false false b h = refl

not_behind : (p q half : Rational) → sum_of q half ≤ℚ p → is_within p q half ≡ false
unfolding is_within
not_behind p q half h =
    and_false (not (less p (difference_of q half))) (less p (sum_of q half))
    ((tests-not_less p (sum_of q half)).1 h)

outside_by : (a b : Interval) (half p q : Rational) → IsInside a p → IsInside b q
    → (ends_below a.high (earlier_by half b.low) ≡ true)
    ⊎ (ends_at_most (later_by half b.high) a.low ≡ true)
    → is_within p q half ≡ false
outside_by a b half p q i j (inl h) =
    not_before p q half
    (below_tells a.high (earlier_by half b.low) p (difference_of q half) h i.below
    (above_earlier half b.low q j.above))
outside_by a b half p q i j (inr h) =
    not_behind p q half
    (at_most_tells (later_by half b.high) a.low (sum_of q half) p h
    (below_later half b.high q j.below) i.above)

outside : (a b : Interval) (half p q : Rational) → none_within a b half ≡ true
    → IsInside a p → IsInside b q → is_within p q half ≡ false
unfolding none_within
outside a b half p q h i j =
    outside_by a b half p q i j
    (or_cases (ends_below a.high (earlier_by half b.low))
    (ends_at_most (later_by half b.high) a.low) h)

times_inside : (relation : Relation) (a b : Interval) (step p q : Rational)
    → all_times_relate relation a b step ≡ true → IsInside a p → IsInside b q
    → time_relates relation p q step ≡ true
unfolding all_times_relate time_relates
times_inside Eq a b step p q h i j = within_inside a b (half_of step) p q h i j
times_inside Ne a b step p q h i j =
    not_from_false (is_within p q (half_of step)) (outside a b (half_of step) p q h i j)
times_inside Lt a b step p q h i j = relate_inside Lt a b p q h i j
times_inside Le a b step p q h i j = relate_inside Le a b p q h i j
times_inside Gt a b step p q h i j = relate_inside Gt a b p q h i j
times_inside Ge a b step p q h i j = relate_inside Ge a b p q h i j

contrary_time_fails : (relation : Relation) (p q step : Rational)
    → time_relates (contrary relation) p q step ≡ true → time_relates relation p q step ≡ false
unfolding time_relates
contrary_time_fails Eq p q step h = not_not (is_within p q (half_of step)) h
contrary_time_fails Ne p q step h = is_not (is_within p q (half_of step)) h
contrary_time_fails Lt p q step h = contrary_fails Lt p q h
contrary_time_fails Le p q step h = contrary_fails Le p q h
contrary_time_fails Gt p q step h = contrary_fails Gt p q h
contrary_time_fails Ge p q step h = contrary_fails Ge p q h

-- ---- both readings
abbrev pub meets_by : Bool → Relation → Rational → Rational → Rational → Bool
meets_by half_step relation step p q =
    if half_step then time_relates relation p q step else relates relation p q

pub all_tells : (half_step : Bool) (relation : Relation) (step : Rational) (a b : Interval)
    (p q : Rational) → all_meet half_step relation step a b ≡ true → IsTrue (lies_in a p)
    → IsTrue (lies_in b q) → meets_by half_step relation step p q ≡ true
unfolding all_meet
all_tells true relation step a b p q h i j =
    times_inside relation a b step p q h ((intervals-inside a p).0 i) ((intervals-inside b q).0 j)
all_tells false relation step a b p q h i j =
    relate_inside relation a b p q h ((intervals-inside a p).0 i) ((intervals-inside b q).0 j)

pub none_tells : (half_step : Bool) (relation : Relation) (step : Rational) (a b : Interval)
    (p q : Rational) → none_meet half_step relation step a b ≡ true → IsTrue (lies_in a p)
    → IsTrue (lies_in b q) → meets_by half_step relation step p q ≡ false
unfolding none_meet
none_tells true relation step a b p q h i j =
    contrary_time_fails relation p q step
    (all_tells true (contrary relation) step a b p q h i j)
none_tells false relation step a b p q h i j =
    contrary_fails relation p q (all_tells false (contrary relation) step a b p q h i j)
