-- The hull of two intervals that are not empty is the least interval that holds both.
use Rattle.std.proofs.Common.{◌≡◌, Bool, true, false, refl, sym, ◌∙◌}
use Rattle.std.specs.Prelude.{◌||◌, IsTrue}
use Rattle.std.proofs.lemmas.Bool.{false≢true, true≢false, not-true, not-false, and_parts, and_from}
use Rattle.exact_fraction.specs.Number.{Rational}
use Rattle.exact_fraction.specs.Order.{◌≤ℚ◌, less}
use Rattle.exact_fraction.proofs.PublicLaws.{order-below_is_at_most, order-at_most_below, order-below_at_most, tests-less, tests-not_less}
use Rattle.interval_sets.specs.declared.interval.Bound.{Bound}
use Rattle.interval_sets.specs.declared.interval.Bound.TheVariants as end
use Rattle.interval_sets.specs.declared.interval.Interval.{Interval}
use Rattle.interval_sets.specs.Intervals.{is_above, is_below, lies_in, has_member, earlier_low, later_high, hull_of}
use Rattle.interval_sets.proofs.Convex.{convex}
use Rattle.interval_sets.proofs.Ends.{above_earlier_low, below_later_high}
use Rattle.interval_sets.proofs.NormalForm.{member_exists}

-- a fraction on the inner side of an end is beyond one that is not
under : (low : Bound) (u q : Rational) → is_above low q ≡ true → is_above low u ≡ false → u ≤ℚ q
under end.NoBound u q h k = absurd (true≢false k)
under (end.Bound p true) u q h k = order-below_is_at_most u q (order-at_most_below u p q ((tests-not_less p u).0 k) ((tests-less p q).0 h))
under (end.Bound p false) u q h k =
    let below = (tests-less u p).0 (not-false (less u p) k) in
    order-below_is_at_most u q (order-below_at_most u p q below ((tests-not_less q p).0 (not-true (less q p) h)))

over : (high : Bound) (q v : Rational) → is_below high q ≡ true → is_below high v ≡ false → q ≤ℚ v
over end.NoBound q v h k = absurd (true≢false k)
over (end.Bound p true) q v h k = order-below_is_at_most q v (order-below_at_most q p v ((tests-less q p).0 h) ((tests-not_less v p).0 k))
over (end.Bound p false) q v h k =
    let above = (tests-less p v).0 (not-false (less p v) k) in
    order-below_is_at_most q v (order-at_most_below q p v ((tests-not_less p q).0 (not-true (less p q) h)) above)

-- a fraction after one interval and before another, both within a piece, is within it
between_both : (p r piece : Interval) (q : Rational) → IsTrue (has_member p.low p.high) → IsTrue (has_member r.low r.high)
    → ((x : Rational) → IsTrue (lies_in p x) → IsTrue (lies_in piece x))
    → ((x : Rational) → IsTrue (lies_in r x) → IsTrue (lies_in piece x))
    → is_below p.high q ≡ false → is_above r.low q ≡ false → IsTrue (lies_in piece q)
between_both p r piece q m n f g h k =
    let u = (member_exists p).0 m in
    let v = (member_exists r).0 n in
    convex piece u.0 q v.0 (f u.0 u.1) (g v.0 v.1)
    (over p.high u.0 q (and_parts (is_above p.low u.0) (is_below p.high u.0) u.1).1 h)
    (under r.low q v.0 (and_parts (is_above r.low v.0) (is_below r.high v.0) v.1).0 k)

pub least_hull : (p r piece : Interval) → IsTrue (has_member p.low p.high) → IsTrue (has_member r.low r.high)
    → ((x : Rational) → IsTrue (lies_in p x) → IsTrue (lies_in piece x))
    → ((x : Rational) → IsTrue (lies_in r x) → IsTrue (lies_in piece x))
    → (q : Rational) → IsTrue (lies_in (hull_of p r) q) → IsTrue (lies_in piece q)
least_hull p r piece m n f g q inside =
    let parts = and_parts (is_above (earlier_low p.low r.low) q) (is_below (later_high p.high r.high) q) inside in
    by_tests (is_above p.low q) (is_below p.high q) (is_above r.low q) (is_below r.high q) refl refl refl refl
    (sym (above_earlier_low p.low r.low q) ∙ parts.0)
    (sym (below_later_high p.high r.high q) ∙ parts.1)
  where
    by_tests : (a b c d : Bool) → is_above p.low q ≡ a → is_below p.high q ≡ b → is_above r.low q ≡ c → is_below r.high q ≡ d
        → (a || c) ≡ true → (b || d) ≡ true → IsTrue (lies_in piece q)
    by_tests true true c d i j k l low high = f q (and_from (is_above p.low q) (is_below p.high q) i j)
    by_tests true false true true i j k l low high = g q (and_from (is_above r.low q) (is_below r.high q) k l)
    by_tests true false true false i j k l low high = absurd (false≢true high)
    by_tests true false false d i j k l low high = between_both p r piece q m n f g j k
    by_tests false b true true i j k l low high = g q (and_from (is_above r.low q) (is_below r.high q) k l)
    by_tests false b true false i j k l low high = between_both r p piece q n m g f l i
    by_tests false b false d i j k l low high = absurd (false≢true low)
