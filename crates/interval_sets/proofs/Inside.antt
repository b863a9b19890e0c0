-- The tests of ends and the relations that they decide.
use Rattle.std.proofs.Common.{◌↔◌, true, false, refl}
use Rattle.std.specs.Prelude.{IsTrue}
use Rattle.std.proofs.lemmas.Bool.{and_parts, and_from}
use Rattle.exact_fraction.specs.Number.{Rational}
use Rattle.exact_fraction.proofs.PublicLaws.{tests-less}
use Rattle.interval_sets.specs.declared.interval.Bound.{Bound}
use Rattle.interval_sets.specs.declared.interval.Bound.TheVariants as end
use Rattle.interval_sets.specs.declared.interval.Interval.{Interval}
use Rattle.interval_sets.specs.Intervals.{is_above, is_below, lies_in, IsAbove, IsBelow, IsInside}
use Rattle.interval_sets.proofs.EdgeOrder.{at_most_true, true_at_most}

pub above_is : (low : Bound) (q : Rational) → IsTrue (is_above low q) ↔ IsAbove low q
above_is end.NoBound q = (λ h. tt, λ h. refl)
above_is (end.Bound p true) q = tests-less p q
above_is (end.Bound p false) q = (at_most_true p q, true_at_most p q)

pub below_is : (high : Bound) (q : Rational) → IsTrue (is_below high q) ↔ IsBelow high q
below_is end.NoBound q = (λ h. tt, λ h. refl)
below_is (end.Bound p true) q = tests-less q p
below_is (end.Bound p false) q = (at_most_true q p, true_at_most q p)

pub inside_is : (piece : Interval) (q : Rational) → IsTrue (lies_in piece q) ↔ IsInside piece q
inside_is piece q = (
  λ h.
      let parts = and_parts (is_above piece.low q) (is_below piece.high q) h in
      record { above = (above_is piece.low q).0 parts.0; below = (below_is piece.high q).0 parts.1 },
  λ inside. and_from (is_above piece.low q) (is_below piece.high q) ((above_is piece.low q).1 inside.above) ((below_is piece.high q).1 inside.below),
)
