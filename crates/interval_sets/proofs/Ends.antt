-- Which of two ends comes first, and what the overlap and the hull of two intervals hold.
use Rattle.std.proofs.Common.{◌≡◌, Bool, true, false, not, refl, sym, ap, ap₂, ◌∙◌}
use Rattle.std.specs.Prelude.{◌&&◌, ◌||◌, if◌then◌else◌}
use Rattle.std.proofs.lemmas.Bool.{false≢true, true≢false, not-true, and_parts, and_from}
use Rattle.exact_fraction.specs.Number.{Rational}
use Rattle.interval_sets.specs.declared.interval.Bound.{Bound}
use Rattle.interval_sets.specs.declared.interval.Bound.TheVariants as end
use Rattle.interval_sets.specs.declared.interval.Interval.{Interval}
use Rattle.interval_sets.specs.Intervals.{is_above, is_below, lies_in, has_gap, begins_earlier, ends_earlier, earlier_low, later_low, earlier_high, later_high, overlap_of, hull_of}
use Rattle.interval_sets.specs.internal.Edges.{is_past, stands_before, low_edge, high_edge}
use Rattle.interval_sets.proofs.EdgeOrder.{past_before, before_from_past}
use Rattle.interval_sets.proofs.NormalForm.{gap_exists}
use Rattle.interval_sets.proofs.PieceEdges.{above_past, below_past}

-- ---- the tests of two ends are tests of their edges
pub begins_before : (a b : Bound) → begins_earlier a b ≡ stands_before (low_edge a) (low_edge b)
begins_before end.NoBound end.NoBound = refl
begins_before end.NoBound (end.Bound q true) = refl
begins_before end.NoBound (end.Bound q false) = refl
begins_before (end.Bound p true) end.NoBound = refl
begins_before (end.Bound p false) end.NoBound = refl
begins_before (end.Bound p true) (end.Bound q true) = refl
begins_before (end.Bound p true) (end.Bound q false) = refl
begins_before (end.Bound p false) (end.Bound q true) = refl
begins_before (end.Bound p false) (end.Bound q false) = refl

pub ends_sooner : (a b : Bound) → ends_earlier a b ≡ stands_before (high_edge a) (high_edge b)
ends_sooner end.NoBound end.NoBound = refl
ends_sooner end.NoBound (end.Bound q true) = refl
ends_sooner end.NoBound (end.Bound q false) = refl
ends_sooner (end.Bound p true) end.NoBound = refl
ends_sooner (end.Bound p false) end.NoBound = refl
ends_sooner (end.Bound p true) (end.Bound q true) = refl
ends_sooner (end.Bound p true) (end.Bound q false) = refl
ends_sooner (end.Bound p false) (end.Bound q true) = refl
ends_sooner (end.Bound p false) (end.Bound q false) = refl

-- ---- the fractions on the inner sides of two ends
pub above_earlier : (a b : Bound) (q : Rational) → begins_earlier a b ≡ true → is_above b q ≡ true → is_above a q ≡ true
above_earlier a b q h k =
    above_past a q ∙ past_before q (low_edge a) (low_edge b) (sym (begins_before a b) ∙ h) (sym (above_past b q) ∙ k)

pub above_other : (a b : Bound) (q : Rational) → begins_earlier a b ≡ false → is_above a q ≡ true → is_above b q ≡ true
above_other a b q h k = by_test (is_above b q) refl
  where
    by_test : (t : Bool) → is_above b q ≡ t → t ≡ true
    by_test true p = refl
    by_test false p =
        absurd (false≢true (sym h ∙ begins_before a b ∙ before_from_past q (low_edge a) (low_edge b) (sym (above_past a q) ∙ k) (sym (above_past b q) ∙ p)))

pub below_later : (a b : Bound) (q : Rational) → ends_earlier a b ≡ true → is_below a q ≡ true → is_below b q ≡ true
below_later a b q h k = below_past b q ∙ by_test (is_past q (high_edge b)) refl
  where
    by_test : (t : Bool) → is_past q (high_edge b) ≡ t → not t ≡ true
    by_test true p =
        absurd (true≢false (sym k ∙ below_past a q ∙ ap not (past_before q (high_edge a) (high_edge b) (sym (ends_sooner a b) ∙ h) p)))
    by_test false p = refl

pub below_other : (a b : Bound) (q : Rational) → ends_earlier a b ≡ false → is_below b q ≡ true → is_below a q ≡ true
below_other a b q h k = below_past a q ∙ by_test (is_past q (high_edge a)) refl
  where
    by_test : (t : Bool) → is_past q (high_edge a) ≡ t → not t ≡ true
    by_test true p =
        absurd (false≢true (sym h ∙ ends_sooner a b ∙ before_from_past q (high_edge a) (high_edge b) p (not-true (is_past q (high_edge b)) (sym (below_past b q) ∙ k))))
    by_test false p = refl

-- ---- the end that is chosen
choice_or : (t x y : Bool) → (t ≡ true → x ≡ true → y ≡ true) → (t ≡ false → y ≡ true → x ≡ true) → (if t then y else x) ≡ (x || y)
choice_or true true y f g = f refl refl
choice_or true false y f g = refl
choice_or false true y f g = refl
choice_or false false true f g = g refl refl
choice_or false false false f g = refl

choice_and : (t x y : Bool) → (t ≡ true → y ≡ true → x ≡ true) → (t ≡ false → x ≡ true → y ≡ true) → (if t then y else x) ≡ (x && y)
choice_and true true y f g = refl
choice_and true false true f g = sym (f refl refl)
choice_and true false false f g = refl
choice_and false true true f g = refl
choice_and false true false f g = sym (g refl refl)
choice_and false false y f g = refl

above_choice : (t : Bool) (a b : Bound) (q : Rational) → is_above (if t then b else a) q ≡ (if t then is_above b q else is_above a q)
above_choice true a b q = refl
above_choice false a b q = refl

below_choice : (t : Bool) (a b : Bound) (q : Rational) → is_below (if t then b else a) q ≡ (if t then is_below b q else is_below a q)
below_choice true a b q = refl
below_choice false a b q = refl

pub above_earlier_low : (a b : Bound) (q : Rational) → is_above (earlier_low a b) q ≡ (is_above a q || is_above b q)
above_earlier_low a b q =
    above_choice (begins_earlier b a) a b q
    ∙ choice_or (begins_earlier b a) (is_above a q) (is_above b q) (above_earlier b a q) (above_other b a q)

pub above_later_low : (a b : Bound) (q : Rational) → is_above (later_low a b) q ≡ (is_above a q && is_above b q)
above_later_low a b q =
    above_choice (begins_earlier a b) a b q
    ∙ choice_and (begins_earlier a b) (is_above a q) (is_above b q) (above_earlier a b q) (above_other a b q)

pub below_later_high : (a b : Bound) (q : Rational) → is_below (later_high a b) q ≡ (is_below a q || is_below b q)
below_later_high a b q =
    below_choice (ends_earlier a b) a b q
    ∙ choice_or (ends_earlier a b) (is_below a q) (is_below b q) (below_later a b q) (below_other a b q)

pub below_earlier_high : (a b : Bound) (q : Rational) → is_below (earlier_high a b) q ≡ (is_below a q && is_below b q)
below_earlier_high a b q =
    below_choice (ends_earlier b a) a b q
    ∙ choice_and (ends_earlier b a) (is_below a q) (is_below b q) (below_later b a q) (below_other b a q)

-- ---- the overlap and the hull
four_parts : (a b c d : Bool) → ((a && b) && (c && d)) ≡ ((a && c) && (b && d))
four_parts true true c d = refl
four_parts true false true d = refl
four_parts true false false d = refl
four_parts false b c d = refl

pub overlap_members : (p r : Interval) (q : Rational) → lies_in (overlap_of p r) q ≡ (lies_in p q && lies_in r q)
overlap_members p r q =
    ap₂ (λ a b. a && b) (above_later_low p.low r.low q) (below_earlier_high p.high r.high q)
    ∙ four_parts (is_above p.low q) (is_above r.low q) (is_below p.high q) (is_below r.high q)

or_left : (a b : Bool) → a ≡ true → (a || b) ≡ true
or_left a b h = ap (λ x. x || b) h

or_right : (a b : Bool) → b ≡ true → (a || b) ≡ true
or_right true b h = refl
or_right false b h = h

pub hull_left : (p r : Interval) (q : Rational) → lies_in p q ≡ true → lies_in (hull_of p r) q ≡ true
hull_left p r q h =
    let parts = and_parts (is_above p.low q) (is_below p.high q) h in
    and_from (is_above (earlier_low p.low r.low) q) (is_below (later_high p.high r.high) q)
    (above_earlier_low p.low r.low q ∙ or_left (is_above p.low q) (is_above r.low q) parts.0)
    (below_later_high p.high r.high q ∙ or_left (is_below p.high q) (is_below r.high q) parts.1)

pub hull_right : (p r : Interval) (q : Rational) → lies_in r q ≡ true → lies_in (hull_of p r) q ≡ true
hull_right p r q h =
    let parts = and_parts (is_above r.low q) (is_below r.high q) h in
    and_from (is_above (earlier_low p.low r.low) q) (is_below (later_high p.high r.high) q)
    (above_earlier_low p.low r.low q ∙ or_right (is_above p.low q) (is_above r.low q) parts.0)
    (below_later_high p.high r.high q ∙ or_right (is_below p.high q) (is_below r.high q) parts.1)

-- where two intervals leave no gap, their hull holds just what lies in either
no_gap : (high low : Bound) (q : Rational) → has_gap high low ≡ false → is_below high q ≡ false → is_above low q ≡ true
no_gap high low q h k = by_test (is_above low q) refl
  where
    by_test : (t : Bool) → is_above low q ≡ t → t ≡ true
    by_test true p = refl
    by_test false p = absurd (false≢true (sym h ∙ (gap_exists high low).1 (q, k, p)))

without_gap : (a b c d : Bool) → (b ≡ false → c ≡ true) → (d ≡ false → a ≡ true) → ((a || c) && (b || d)) ≡ ((a && b) || (c && d))
without_gap true true c d f g = refl
without_gap true false true d f g = refl
without_gap true false false d f g = absurd (false≢true (f refl))
without_gap false b true true f g = or_right b true refl
without_gap false b false d f g = refl
without_gap false b true false f g = absurd (false≢true (g refl))

pub hull_members : (p r : Interval) (q : Rational) → has_gap p.high r.low ≡ false → has_gap r.high p.low ≡ false → lies_in (hull_of p r) q ≡ (lies_in p q || lies_in r q)
hull_members p r q h k =
    ap₂ (λ a b. a && b) (above_earlier_low p.low r.low q) (below_later_high p.high r.high q)
    ∙ without_gap (is_above p.low q) (is_below p.high q) (is_above r.low q) (is_below r.high q) (no_gap p.high r.low q h) (no_gap r.high p.low q k)
