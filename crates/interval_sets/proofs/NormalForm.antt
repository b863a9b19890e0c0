-- What the tests of ends tell, and that cuts which rise from one to the next rise throughout.
use Rattle.std.proofs.Common.{◌≡◌, ◌↔◌, false, not, sym, ap, ◌∙◌}
use Rattle.std.specs.Prelude.{IsTrue}
use Rattle.std.proofs.lemmas.Bool.{and_parts, and_from, not-true, not-false}
use Rattle.exact_fraction.specs.Number.{Rational}
use Rattle.interval_sets.specs.declared.interval.Bound.{Bound}
use Rattle.interval_sets.specs.declared.interval.Interval.{Interval}
use Rattle.interval_sets.specs.Intervals.{is_above, is_below, lies_in, has_member, has_gap}
use Rattle.interval_sets.specs.internal.Edges.{is_past, low_edge, high_edge}
use Rattle.interval_sets.proofs.EdgeOrder.{room, before_from_past}
use Rattle.interval_sets.proofs.PieceEdges.{above_past, below_past, member_before, gap_before}

pub member_exists : (piece : Interval) → IsTrue (has_member piece.low piece.high) ↔ ((q : Rational) × IsTrue (lies_in piece q))
member_exists piece = (
  λ h.
      let r = room (low_edge piece.low) (high_edge piece.high) (sym (member_before piece.low piece.high) ∙ h) in
      (r.at, and_from (is_above piece.low r.at) (is_below piece.high r.at) (above_past piece.low r.at ∙ r.past) (below_past piece.high r.at ∙ ap not r.short)),
  λ (q, h).
      let parts = and_parts (is_above piece.low q) (is_below piece.high q) h in
      member_before piece.low piece.high
      ∙ before_from_past q (low_edge piece.low) (high_edge piece.high) (sym (above_past piece.low q) ∙ parts.0) (not-true (is_past q (high_edge piece.high)) (sym (below_past piece.high q) ∙ parts.1)),
)

pub gap_exists : (high low : Bound) → IsTrue (has_gap high low) ↔ ((q : Rational) × (is_below high q ≡ false) × (is_above low q ≡ false))
gap_exists high low = (
  λ h.
      let r = room (high_edge high) (low_edge low) (sym (gap_before high low) ∙ h) in
      (r.at, below_past high r.at ∙ ap not r.past, above_past low r.at ∙ r.short),
  λ (q, h, k).
      gap_before high low
      ∙ before_from_past q (high_edge high) (low_edge low) (not-false (is_past q (high_edge high)) (sym (below_past high q) ∙ h)) (sym (above_past low q) ∙ k),
)
