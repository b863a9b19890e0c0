-- What lies between two fractions of an interval lies in it.
use Rattle.std.proofs.Common.{◌≡◌, ◌↔◌, true, false, not, refl, sym, ◌∙◌}
use Rattle.std.specs.Prelude.{IsTrue}
use Rattle.std.proofs.lemmas.Bool.{and_parts, and_from, false_from_ne_true, not_from_false, true≢false, not-true}
use Rattle.exact_fraction.specs.Number.{Rational}
use Rattle.exact_fraction.specs.Order.{◌≤ℚ◌}
use Rattle.exact_fraction.proofs.PublicLaws.{order-transitive, order-below_at_most, order-at_most_below, tests-less}
use Rattle.interval_sets.specs.declared.interval.Bound.{Bound}
use Rattle.interval_sets.specs.declared.interval.Bound.TheVariants as end
use Rattle.interval_sets.specs.declared.interval.Interval.{Interval}
use Rattle.interval_sets.specs.Intervals.{is_above, is_below, lies_in, has_member}
use Rattle.interval_sets.proofs.EdgeOrder.{at_most_true, true_at_most}
use Rattle.interval_sets.proofs.NormalForm.{member_exists}

above_on : (low : Bound) (p q : Rational) → p ≤ℚ q → is_above low p ≡ true → is_above low q ≡ true
above_on end.NoBound p q k h = refl
above_on (end.Bound n true) p q k h = (tests-less n q).1 (order-below_at_most n p q ((tests-less n p).0 h) k)
above_on (end.Bound n false) p q k h = true_at_most n q (order-transitive n p q (at_most_true n p h) k)

below_on : (high : Bound) (q r : Rational) → q ≤ℚ r → is_below high r ≡ true → is_below high q ≡ true
below_on end.NoBound q r k h = refl
below_on (end.Bound n true) q r k h = (tests-less q n).1 (order-at_most_below q r n k ((tests-less r n).0 h))
below_on (end.Bound n false) q r k h = true_at_most q n (order-transitive q r n k (at_most_true r n h))

pub convex : (piece : Interval) (p q r : Rational) → IsTrue (lies_in piece p) → IsTrue (lies_in piece r) → p ≤ℚ q → q ≤ℚ r → IsTrue (lies_in piece q)
convex piece p q r h g k l =
    let first = and_parts (is_above piece.low p) (is_below piece.high p) h in
    let last = and_parts (is_above piece.low r) (is_below piece.high r) g in
    and_from (is_above piece.low q) (is_below piece.high q) (above_on piece.low p q k first.0) (below_on piece.high q r l last.1)

-- no fraction lies in an interval whose ends leave no room
pub none_lies : (piece : Interval) → IsTrue (not (has_member piece.low piece.high)) ↔ ((q : Rational) → lies_in piece q ≡ false)
none_lies piece = (
  λ none q. false_from_ne_true (lies_in piece q) (λ h. true≢false (sym ((member_exists piece).1 (q, h)) ∙ not-true (has_member piece.low piece.high) none)),
  λ none. not_from_false (has_member piece.low piece.high) (false_from_ne_true (has_member piece.low piece.high) (λ h. (let found = (member_exists piece).0 h in true≢false (sym found.1 ∙ none found.0)))),
)
