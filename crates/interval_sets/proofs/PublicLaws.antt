-- What the crates above may cite in their lemmas, and all that they may. Each term proves the clause of src/laws.rt that
-- its name tells, law and clause, and the answers of those laws are these terms: so no more is cited than a public clause
-- says.
use Rattle.std.specs.Prelude.{◌≡◌}
use Rattle.std.proofs.Common.{sym}
use Rattle.exact_fraction.specs.Number.{Rational}
use Rattle.exact_fraction.specs.Order.{same}
use Rattle.interval_sets.specs.Intervals.{lies_in, point_of}
use Rattle.interval_sets.proofs.OfRelation.{same_tests}
pub use Rattle.interval_sets.proofs.Inside.{above_is as ends-above, below_is as ends-below, inside_is as intervals-inside}
pub use Rattle.interval_sets.proofs.Ends.{above_earlier_low as ends-earlier_low, above_later_low as ends-later_low, below_earlier_high as ends-earlier_high, below_later_high as ends-later_high}
pub use Rattle.interval_sets.proofs.Ends.{overlap_members as intervals-overlap, hull_left as intervals-hull_left, hull_right as intervals-hull_right, hull_members as intervals-hull_joined}
pub use Rattle.interval_sets.proofs.Hulls.{least_hull as intervals-hull_least}
pub use Rattle.interval_sets.proofs.EndEquality.{Bound-sames as equality-bound, Interval-sames as equality-interval}
pub use Rattle.interval_sets.proofs.Convex.{convex as intervals-convex}
pub use Rattle.interval_sets.proofs.Unique.{unique_pieces as normal_form-unique}
pub use Rattle.interval_sets.proofs.NormalForm.{member_exists as normal_form-not_empty, gap_exists as normal_form-apart}
pub use Rattle.interval_sets.proofs.SetMembers.{normal_form_members as set_members-normal_form, set_members as set_members-relation, union_members as set_members-union, intersection_members as set_members-intersection, complement_members as set_members-complement}
pub use Rattle.interval_sets.proofs.SetNormal.{normal_form_rising as set_order-normal_form, set_rising as set_order-relation, union_rising as set_order-union, intersection_rising as set_order-intersection, complement_rising as set_order-complement}
pub use Rattle.interval_sets.proofs.SetResults.{normal_form_same as set_order-same}
pub use Rattle.interval_sets.proofs.SetNormal.{normal_form_held as set_ends-normal_form, set_held as set_ends-relation, union_held as set_ends-union, intersection_held as set_ends-intersection, complement_held as set_ends-complement}
pub use Rattle.interval_sets.proofs.SetNormal.{no_piece as empty_sets-normal, set_some as empty_sets-relation, union_none as empty_sets-union, union_some as empty_sets-union_left, intersection_none as empty_sets-intersection}
pub use Rattle.interval_sets.proofs.CutOrder.{rising_pairs as cuts-rising, rising_one as cuts-one, rising_next as cuts-next}

pub intervals-point : (p q : Rational) → lies_in (point_of p) q ≡ same q p
intervals-point p q = sym (same_tests q p)
