-- The sets that the operations make are in normal form.
use Rattle.std.proofs.Common.{◌≡◌, ◌↔◌, Bool, true, false, not, List, [], ◌∷◌, ◌++◌, map, refl, sym, ap, ◌∙◌}
use Rattle.std.specs.Prelude.{◌&&◌, ◌||◌, if◌then◌else◌}
use Rattle.std.proofs.lemmas.Bool.{true≢false, and_from}
use Rattle.exact_fraction.specs.Number.{Rational, IsNumber}
use Rattle.exact_fraction.specs.Order.{less}
use Rattle.exact_fraction.specs.declared.relation.Relation.{Relation}
use Rattle.exact_fraction.specs.declared.relation.Relation.TheVariants.{Eq, Ne, Lt, Le, Gt, Ge}
use Rattle.interval_sets.specs.declared.interval.Bound.{Bound}
use Rattle.interval_sets.specs.declared.interval.Bound.TheVariants as end
use Rattle.interval_sets.specs.declared.interval.Interval.{Interval}
use Rattle.interval_sets.specs.Intervals.{has_member, has_gap, begins_earlier, ends_earlier, overlap_of, hull_of, IsHeld}
use Rattle.interval_sets.specs.Sets.{members, is_normal, AreHeld, and_interval, normal_form, set_of, union_of, overlaps_of, intersection_of, below_low, above_high, complement_of}
use Rattle.interval_sets.specs.internal.Edges.{stands_before, low_edge, high_edge, edges_of, Leads, Rises}
use Rattle.interval_sets.specs.declared.edge.Edge.{Edge}
use Rattle.interval_sets.proofs.EdgeOrder.{le_refl}
use Rattle.interval_sets.proofs.Ends.{hull_left}
use Rattle.interval_sets.proofs.Merging.{leads_through}
use Rattle.interval_sets.proofs.NormalForm.{member_exists}
use Rattle.interval_sets.proofs.PieceEdges.{member_before, gap_before, normal_rises, rises_normal}
use Rattle.interval_sets.proofs.SetMembers.{union_members, intersection_members}

-- ---- one more interval
leads_choice : (t : Bool) (e : Edge) (a b : Bound) → stands_before e (low_edge a) ≡ true → stands_before e (low_edge b) ≡ true → stands_before e (low_edge (if t then b else a)) ≡ true
leads_choice true e a b h k = k
leads_choice false e a b h k = h

leads_by : (s t : Bool) (e : Edge) (piece next : Interval) (pieces later joined : List Interval)
    → stands_before e (low_edge piece.low) ≡ true → stands_before e (low_edge next.low) ≡ true → Leads e (edges_of joined)
    → Leads e (edges_of (if s then piece ∷ next ∷ pieces else (if t then next ∷ later else joined)))
leads_by true t e piece next pieces later joined h k j = h
leads_by false true e piece next pieces later joined h k j = k
leads_by false false e piece next pieces later joined h k j = j

and_leads : (e : Edge) (piece : Interval) (pieces : List Interval) → stands_before e (low_edge piece.low) ≡ true → Leads e (edges_of pieces) → Rises (edges_of pieces) → Leads e (edges_of (and_interval piece pieces))
unfolding and_interval
and_leads e piece [] h leads rises = h
and_leads e piece (next ∷ pieces) h leads rises =
    leads_by (has_gap piece.high next.low) (has_gap next.high piece.low) e piece next pieces (and_interval piece pieces) (and_interval (hull_of piece next) pieces) h leads
    (and_leads e (hull_of piece next) pieces
    (leads_choice (begins_earlier next.low piece.low) e piece.low next.low h leads)
    (leads_through e (low_edge next.low) (edges_of pieces) leads (leads_through (low_edge next.low) (high_edge next.high) (edges_of pieces) rises.0 rises.1.0))
    rises.1.1)

-- the hull of an interval that some fraction lies in has that fraction
hull_edges : (piece next : Interval) → stands_before (low_edge piece.low) (high_edge piece.high) ≡ true → stands_before (low_edge (hull_of piece next).low) (high_edge (hull_of piece next).high) ≡ true
hull_edges piece next h =
    let found = (member_exists piece).0 (member_before piece.low piece.high ∙ h) in
    sym (member_before (hull_of piece next).low (hull_of piece next).high) ∙ (member_exists (hull_of piece next)).1 (found.0, hull_left piece next found.0 found.1)

rises_by : (s t : Bool) (piece next : Interval) (pieces later joined : List Interval)
    → has_gap piece.high next.low ≡ s → has_gap next.high piece.low ≡ t
    → stands_before (low_edge piece.low) (high_edge piece.high) ≡ true → Rises (edges_of (next ∷ pieces))
    → (stands_before (high_edge next.high) (low_edge piece.low) ≡ true → Leads (high_edge next.high) (edges_of later)) → Rises (edges_of later) → Rises (edges_of joined)
    → Rises (edges_of (if s then piece ∷ next ∷ pieces else (if t then next ∷ later else joined)))
rises_by true t piece next pieces later joined p q h rises leads l j = (h, (sym (gap_before piece.high next.low) ∙ p, rises))
rises_by false true piece next pieces later joined p q h rises leads l j = (rises.0, (leads (sym (gap_before next.high piece.low) ∙ q), l))
rises_by false false piece next pieces later joined p q h rises leads l j = j

and_rises : (piece : Interval) (pieces : List Interval) → stands_before (low_edge piece.low) (high_edge piece.high) ≡ true → Rises (edges_of pieces) → Rises (edges_of (and_interval piece pieces))
unfolding and_interval
and_rises piece [] h rises = (h, (tt, tt))
and_rises piece (next ∷ pieces) h rises =
    rises_by (has_gap piece.high next.low) (has_gap next.high piece.low) piece next pieces (and_interval piece pieces) (and_interval (hull_of piece next) pieces) refl refl h rises
    (λ gap. and_leads (high_edge next.high) piece pieces gap rises.1.0 rises.1.1)
    (and_rises piece pieces h rises.1.1)
    (and_rises (hull_of piece next) pieces (hull_edges piece next h) rises.1.1)

normal_by : (t : Bool) (piece : Interval) (later : List Interval) → has_member piece.low piece.high ≡ t → Rises (edges_of later) → Rises (edges_of (if t then and_interval piece later else later))
normal_by true piece later h rises = and_rises piece later (sym (member_before piece.low piece.high) ∙ h) rises
normal_by false piece later h rises = rises

normal_form_rises : (pieces : List Interval) → Rises (edges_of (normal_form pieces))
unfolding normal_form
normal_form_rises [] = tt
normal_form_rises (piece ∷ pieces) = normal_by (has_member piece.low piece.high) piece (normal_form pieces) refl (normal_form_rises pieces)

pub normal_form_rising : (pieces : List Interval) → is_normal (normal_form pieces) ≡ true
normal_form_rising pieces = rises_normal (normal_form pieces) (normal_form_rises pieces)

pub union_rising : (a b : List Interval) → is_normal (union_of a b) ≡ true
unfolding union_of
union_rising a b = normal_form_rising (a ++ b)

pub intersection_rising : (a b : List Interval) → is_normal (intersection_of a b) ≡ true
unfolding intersection_of
intersection_rising a b = normal_form_rising (overlaps_of a b)

pub complement_rising : (a : List Interval) → is_normal (complement_of a) ≡ true
unfolding complement_of
complement_rising [] = refl
complement_rising (piece ∷ a) = intersection_rising (below_low piece.low ++ above_high piece.high) (complement_of a)

pub set_rising : (rel : Relation) (c : Rational) → is_normal (set_of rel c) ≡ true
unfolding set_of
set_rising Eq c = and_from (not (less c c) && true) true (and_from (not (less c c)) true (le_refl c) refl) refl
set_rising Ne c = and_from (not (less c c)) true (le_refl c) refl
set_rising Lt c = refl
set_rising Le c = refl
set_rising Gt c = refl
set_rising Ge c = refl

-- ---- the ends are numbers that a program holds
choice_held : (t : Bool) (a b : Bound) → IsHeld a → IsHeld b → IsHeld (if t then b else a)
choice_held true a b h k = k
choice_held false a b h k = h

held_by : (s t : Bool) (piece next : Interval) (pieces later joined : List Interval)
    → AreHeld (piece ∷ next ∷ pieces) → AreHeld later → AreHeld joined
    → AreHeld (if s then piece ∷ next ∷ pieces else (if t then next ∷ later else joined))
held_by true t piece next pieces later joined h l j = h
held_by false true piece next pieces later joined h l j = (h.2.0, h.2.1, l)
held_by false false piece next pieces later joined h l j = j

and_held : (piece : Interval) (pieces : List Interval) → IsHeld piece.low → IsHeld piece.high → AreHeld pieces → AreHeld (and_interval piece pieces)
unfolding and_interval
and_held piece [] low high held = (low, high, tt)
and_held piece (next ∷ pieces) low high held =
    held_by (has_gap piece.high next.low) (has_gap next.high piece.low) piece next pieces (and_interval piece pieces) (and_interval (hull_of piece next) pieces)
    (low, high, held)
    (and_held piece pieces low high held.2)
    (and_held (hull_of piece next) pieces
    (choice_held (begins_earlier next.low piece.low) piece.low next.low low held.0)
    (choice_held (ends_earlier piece.high next.high) piece.high next.high high held.1)
    held.2)

kept_by : (t : Bool) (piece : Interval) (later : List Interval) → AreHeld (and_interval piece later) → AreHeld later → AreHeld (if t then and_interval piece later else later)
kept_by true piece later h l = h
kept_by false piece later h l = l

pub normal_form_held : (pieces : List Interval) → AreHeld pieces → AreHeld (normal_form pieces)
unfolding normal_form
normal_form_held [] held = tt
normal_form_held (piece ∷ pieces) held =
    let later = normal_form_held pieces held.2 in
    kept_by (has_member piece.low piece.high) piece (normal_form pieces) (and_held piece (normal_form pieces) held.0 held.1 later) later

append_held : (a b : List Interval) → AreHeld a → AreHeld b → AreHeld (a ++ b)
append_held [] b h k = k
append_held (piece ∷ a) b h k = (h.0, h.1, append_held a b h.2 k)

beside_held : (piece : Interval) (b : List Interval) → IsHeld piece.low → IsHeld piece.high → AreHeld b → AreHeld (map (overlap_of piece) b)
beside_held piece [] low high held = tt
beside_held piece (next ∷ b) low high held = (
  choice_held (begins_earlier piece.low next.low) piece.low next.low low held.0,
  choice_held (ends_earlier next.high piece.high) piece.high next.high high held.1,
  beside_held piece b low high held.2,
)

overlaps_held : (a b : List Interval) → AreHeld a → AreHeld b → AreHeld (overlaps_of a b)
overlaps_held [] b h k = tt
overlaps_held (piece ∷ a) b h k = append_held (map (overlap_of piece) b) (overlaps_of a b) (beside_held piece b h.0 h.1 k) (overlaps_held a b h.2 k)

pub union_held : (a b : List Interval) → AreHeld a → AreHeld b → AreHeld (union_of a b)
unfolding union_of
union_held a b h k = normal_form_held (a ++ b) (append_held a b h k)

pub intersection_held : (a b : List Interval) → AreHeld a → AreHeld b → AreHeld (intersection_of a b)
unfolding intersection_of
intersection_held a b h k = normal_form_held (overlaps_of a b) (overlaps_held a b h k)

below_held : (low : Bound) → IsHeld low → AreHeld (below_low low)
below_held end.NoBound h = tt
below_held (end.Bound p left_out) h = (tt, h, tt)

above_held : (high : Bound) → IsHeld high → AreHeld (above_high high)
above_held end.NoBound h = tt
above_held (end.Bound p left_out) h = (h, tt, tt)

pub complement_held : (a : List Interval) → AreHeld a → AreHeld (complement_of a)
unfolding complement_of
complement_held [] h = (tt, tt, tt)
complement_held (piece ∷ a) h =
    intersection_held (below_low piece.low ++ above_high piece.high) (complement_of a)
    (append_held (below_low piece.low) (above_high piece.high) (below_held piece.low h.0) (above_held piece.high h.1))
    (complement_held a h.2)

pub set_held : (rel : Relation) (c : Rational) → IsNumber c → AreHeld (set_of rel c)
unfolding set_of
set_held Eq c h = (h, h, tt)
set_held Ne c h = (tt, h, (h, tt, tt))
set_held Lt c h = (tt, h, tt)
set_held Le c h = (tt, h, tt)
set_held Gt c h = (h, tt, tt)
set_held Ge c h = (h, tt, tt)

-- ---- which sets have no piece
pub no_piece : (a : List Interval) → is_normal a ≡ true → (a ≡ []) ↔ ((q : Rational) → members a q ≡ false)
no_piece [] h = (λ e q. refl, λ none. refl)
no_piece (piece ∷ a) h = (λ e. cc, λ none. absurd (some none))
  where
    some : ((q : Rational) → members (piece ∷ a) q ≡ false) → ⊥
    some none =
        let rises = normal_rises (piece ∷ a) h in
        let found = (member_exists piece).0 (member_before piece.low piece.high ∙ rises.0) in
        true≢false (sym (ap (λ x. x || members a found.0) found.1) ∙ none found.0)

pub set_some : (rel : Relation) (c : Rational) → set_of rel c ≡ [] → ⊥
unfolding set_of
set_some Eq c h = cc
set_some Ne c h = cc
set_some Lt c h = cc
set_some Le c h = cc
set_some Gt c h = cc
set_some Ge c h = cc

pub union_none : (a b : List Interval) → (union_of a b ≡ []) ↔ ((q : Rational) → (members a q || members b q) ≡ false)
union_none a b =
    let same = no_piece (union_of a b) (union_rising a b) in
    (λ e q. sym (union_members a b q) ∙ same.0 e q, λ none. same.1 (λ q. union_members a b q ∙ none q))

pub intersection_none : (a b : List Interval) → (intersection_of a b ≡ []) ↔ ((q : Rational) → (members a q && members b q) ≡ false)
intersection_none a b =
    let same = no_piece (intersection_of a b) (intersection_rising a b) in
    (λ e q. sym (intersection_members a b q) ∙ same.0 e q, λ none. same.1 (λ q. intersection_members a b q ∙ none q))

-- a union has a piece where the first of its sets, in normal form, has one
pub union_some : (a b : List Interval) → is_normal a ≡ true → (a ≡ [] → ⊥) → union_of a b ≡ [] → ⊥
union_some a b h some none =
    some ((no_piece a h).1 (λ q. first (members a q) (members b q) ((union_none a b).0 none q)))
  where
    first : (x y : Bool) → (x || y) ≡ false → x ≡ false
    first true y e = e
    first false y e = refl
