-- An interval lies within another exactly where it is empty, or neither begins before it nor ends after it.
use Rattle.std.proofs.Common.{◌≡◌, ◌↔◌, Bool, true, false, not, refl, sym, ap, ◌∙◌}
use Rattle.std.specs.Prelude.{◌&&◌, ◌||◌, IsTrue}
use Rattle.std.proofs.lemmas.Bool.{false≢true, true≢false, and_parts, and_from, not_from_false}
use Rattle.exact_fraction.specs.Number.{Rational}
use Rattle.interval_sets.specs.declared.interval.Interval.{Interval}
use Rattle.interval_sets.specs.declared.edge.Edge.{Edge}
use Rattle.interval_sets.specs.Intervals.{is_above, is_below, lies_in, has_member, begins_earlier, ends_earlier}
use Rattle.interval_sets.specs.internal.Edges.{is_past, stands_before, low_edge, high_edge}
use Rattle.interval_sets.proofs.Convex.{none_lies}
use Rattle.interval_sets.proofs.EdgeOrder.{room, past_before, before_from_past}
use Rattle.interval_sets.proofs.Ends.{begins_before, ends_sooner, above_other, below_other}
use Rattle.interval_sets.proofs.PieceEdges.{above_past, below_past, member_before}
use Rattle.interval_sets.proofs.Unique.{between}

-- a fraction past two edges that both stand before a third, and short of that
record PastBoth (a b c : Edge) : Type 0 where
  pub at : Rational
  pub past : is_past at a ≡ true
  pub past_too : is_past at b ≡ true
  pub short : is_past at c ≡ false

past_both : (a b c : Edge) → stands_before a c ≡ true → stands_before b c ≡ true → PastBoth a b c
past_both a b c h k = by_test (stands_before a b) refl
  where
    by_test : (t : Bool) → stands_before a b ≡ t → PastBoth a b c
    by_test true p =
        let r = room b c k in
        record { at = r.at; past = past_before r.at a b p r.past; past_too = r.past; short = r.short }
    by_test false p =
        let r = room a c h in
        record { at = r.at; past = r.past; past_too = past_other r.at r.past (is_past r.at b) refl; short = r.short }
      where
        past_other : (q : Rational) → is_past q a ≡ true → (t : Bool) → is_past q b ≡ t → t ≡ true
        past_other q at_a true e = refl
        past_other q at_a false e = absurd (false≢true (sym p ∙ before_from_past q a b at_a e))

abbrev Within : Interval → Interval → Type 0
Within p r = (q : Rational) → IsTrue (lies_in p q) → IsTrue (lies_in r q)

begins_outside : (p r : Interval) → has_member p.low p.high ≡ true → begins_earlier p.low r.low ≡ true → Within p r → ⊥
begins_outside p r m b within =
    let w = between (low_edge p.low) (low_edge r.low) (high_edge p.high) (sym (begins_before p.low r.low) ∙ b) (sym (member_before p.low p.high) ∙ m) in
    let inside = within w.at (and_from (is_above p.low w.at) (is_below p.high w.at) (above_past p.low w.at ∙ w.past) (below_past p.high w.at ∙ ap not w.short_too)) in
    true≢false (sym (and_parts (is_above r.low w.at) (is_below r.high w.at) inside).0 ∙ above_past r.low w.at ∙ w.short)

ends_outside : (p r : Interval) → has_member p.low p.high ≡ true → ends_earlier r.high p.high ≡ true → Within p r → ⊥
ends_outside p r m e within =
    let w = past_both (low_edge p.low) (high_edge r.high) (high_edge p.high) (sym (member_before p.low p.high) ∙ m) (sym (ends_sooner r.high p.high) ∙ e) in
    let inside = within w.at (and_from (is_above p.low w.at) (is_below p.high w.at) (above_past p.low w.at ∙ w.past) (below_past p.high w.at ∙ ap not w.short)) in
    true≢false (sym (and_parts (is_above r.low w.at) (is_below r.high w.at) inside).1 ∙ below_past r.high w.at ∙ ap not w.past_too)

by_tests : (m b e : Bool) (p r : Interval) → has_member p.low p.high ≡ m → begins_earlier p.low r.low ≡ b → ends_earlier r.high p.high ≡ e
    → IsTrue (not m || (not b && not e)) ↔ Within p r
by_tests false b e p r h k l = (
  λ t q inside. absurd (true≢false (sym inside ∙ (none_lies p).0 (not_from_false (has_member p.low p.high) h) q)),
  λ within. refl,
)
by_tests true true e p r h k l = (λ t. absurd (false≢true t), λ within. absurd (begins_outside p r h k within))
by_tests true false true p r h k l = (λ t. absurd (false≢true t), λ within. absurd (ends_outside p r h l within))
by_tests true false false p r h k l = (
  λ t q inside.
      let parts = and_parts (is_above p.low q) (is_below p.high q) inside in
      and_from (is_above r.low q) (is_below r.high q) (above_other p.low r.low q k parts.0) (below_other r.high p.high q l parts.1),
  λ within. refl,
)

pub subset_test : (p r : Interval) → IsTrue (not (has_member p.low p.high) || (not (begins_earlier p.low r.low) && not (ends_earlier r.high p.high))) ↔ ((q : Rational) → IsTrue (lies_in p q) → IsTrue (lies_in r q))
subset_test p r = by_tests (has_member p.low p.high) (begins_earlier p.low r.low) (ends_earlier r.high p.high) p r refl refl refl
