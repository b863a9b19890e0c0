-- The edges of pieces: what is known of the one is known of the other.
use Rattle.std.proofs.Common.{◌≡◌, ℕ, ◌+◌, ◌<◌, length, take, get_or, append_assoc, Bool, true, false, not, List, [], ◌∷◌, ◌++◌, refl, sym, ap, ap₂, subst, ◌∙◌}
use Rattle.std.specs.Prelude.{◌&&◌, ◌||◌}
use Rattle.std.proofs.lemmas.Bool.{false≢true, and_parts, and_from}
use Rattle.std.proofs.lemmas.List.{take_more}
use Rattle.exact_fraction.specs.Number.{Rational}
use Rattle.exact_fraction.specs.Order.{less}
use Rattle.interval_sets.specs.declared.interval.Bound.{Bound}
use Rattle.interval_sets.specs.declared.interval.Bound.TheVariants as end
use Rattle.interval_sets.specs.declared.interval.Interval.{Interval}
use Rattle.interval_sets.specs.declared.edge.Edge.{Edge}
use Rattle.interval_sets.specs.declared.edge.Edge.TheVariants.{BelowAll, Before, After, AboveAll}
use Rattle.interval_sets.specs.declared.combination.Combination.{Combination}
use Rattle.interval_sets.specs.declared.combination.Combination.TheVariants.{Union, Meet, Difference}
use Rattle.interval_sets.specs.Intervals.{is_above, is_below, has_member, has_gap, IsHeld}
use Rattle.interval_sets.specs.Sets.{members, ends_before, is_normal, AreHeld, IsNormal}
use Rattle.interval_sets.specs.internal.Edges.{is_past, stands_before, low_edge, high_edge, low_end, high_end, edges_of, Leads, Rises, IsHeldEdge, AreHeldEdges, differs, oddly_many, IsDownward, in_combination, IsCombination}
use Rattle.interval_sets.proofs.EdgeOrder.{past_before}
use Rattle.interval_sets.proofs.Merging.{none_after}

-- ---- one piece
pub above_past : (low : Bound) (q : Rational) → is_above low q ≡ is_past q (low_edge low)
above_past end.NoBound q = refl
above_past (end.Bound p true) q = refl
above_past (end.Bound p false) q = refl

pub not_twice : (b : Bool) → b ≡ not (not b)
not_twice true = refl
not_twice false = refl

pub below_past : (high : Bound) (q : Rational) → is_below high q ≡ not (is_past q (high_edge high))
below_past end.NoBound q = refl
below_past (end.Bound p true) q = not_twice (less q p)
below_past (end.Bound p false) q = refl

pub member_before : (low high : Bound) → has_member low high ≡ stands_before (low_edge low) (high_edge high)
member_before end.NoBound end.NoBound = refl
member_before end.NoBound (end.Bound q true) = refl
member_before end.NoBound (end.Bound q false) = refl
member_before (end.Bound p true) end.NoBound = refl
member_before (end.Bound p false) end.NoBound = refl
member_before (end.Bound p true) (end.Bound q true) = refl
member_before (end.Bound p true) (end.Bound q false) = refl
member_before (end.Bound p false) (end.Bound q true) = refl
member_before (end.Bound p false) (end.Bound q false) = refl

pub gap_before : (high low : Bound) → has_gap high low ≡ stands_before (high_edge high) (low_edge low)
gap_before end.NoBound end.NoBound = refl
gap_before end.NoBound (end.Bound q true) = refl
gap_before end.NoBound (end.Bound q false) = refl
gap_before (end.Bound p true) end.NoBound = refl
gap_before (end.Bound p false) end.NoBound = refl
gap_before (end.Bound p true) (end.Bound q true) = refl
gap_before (end.Bound p true) (end.Bound q false) = refl
gap_before (end.Bound p false) (end.Bound q true) = refl
gap_before (end.Bound p false) (end.Bound q false) = refl

-- ---- normal form
pub leads_from : (piece : Interval) (pieces : List Interval) → ends_before piece pieces ≡ true → Leads (high_edge piece.high) (edges_of pieces)
leads_from piece [] h = tt
leads_from piece (next ∷ pieces) h = sym (gap_before piece.high next.low) ∙ h

pub from_leads : (piece : Interval) (pieces : List Interval) → Leads (high_edge piece.high) (edges_of pieces) → ends_before piece pieces ≡ true
from_leads piece [] h = refl
from_leads piece (next ∷ pieces) h = gap_before piece.high next.low ∙ h

pub normal_rises : (pieces : List Interval) → is_normal pieces ≡ true → Rises (edges_of pieces)
normal_rises [] h = tt
normal_rises (piece ∷ pieces) h =
    let parts = and_parts (has_member piece.low piece.high && ends_before piece pieces) (is_normal pieces) h in
    let own = and_parts (has_member piece.low piece.high) (ends_before piece pieces) parts.0 in
    (sym (member_before piece.low piece.high) ∙ own.0, (leads_from piece pieces own.1, normal_rises pieces parts.1))

pub rises_normal : (pieces : List Interval) → Rises (edges_of pieces) → is_normal pieces ≡ true
rises_normal [] h = refl
rises_normal (piece ∷ pieces) h =
    and_from (has_member piece.low piece.high && ends_before piece pieces) (is_normal pieces)
    (and_from (has_member piece.low piece.high) (ends_before piece pieces) (member_before piece.low piece.high ∙ h.0) (from_leads piece pieces h.1.0))
    (rises_normal pieces h.1.1)

low_held : (low : Bound) → IsHeld low → IsHeldEdge (low_edge low)
low_held end.NoBound h = tt
low_held (end.Bound p true) h = h
low_held (end.Bound p false) h = h

high_held : (high : Bound) → IsHeld high → IsHeldEdge (high_edge high)
high_held end.NoBound h = tt
high_held (end.Bound p true) h = h
high_held (end.Bound p false) h = h

held_low : (low : Bound) → IsHeldEdge (low_edge low) → IsHeld low
held_low end.NoBound h = tt
held_low (end.Bound p true) h = h
held_low (end.Bound p false) h = h

held_high : (high : Bound) → IsHeldEdge (high_edge high) → IsHeld high
held_high end.NoBound h = tt
held_high (end.Bound p true) h = h
held_high (end.Bound p false) h = h

pub held_edges : (pieces : List Interval) → AreHeld pieces → AreHeldEdges (edges_of pieces)
held_edges [] h = tt
held_edges (piece ∷ pieces) h = (low_held piece.low h.0, (high_held piece.high h.1, held_edges pieces h.2))

pub edges_held : (pieces : List Interval) → AreHeldEdges (edges_of pieces) → AreHeld pieces
edges_held [] h = tt
edges_held (piece ∷ pieces) h = (held_low piece.low h.0, held_high piece.high h.1.0, edges_held pieces h.1.1)

-- ---- members
pub is_downward : (q : Rational) → IsDownward (is_past q)
is_downward q e f h k = past_before q e f h k

in_or_later : (low high later : Bool) → (high ≡ true → low ≡ true) → (later ≡ true → high ≡ true) → (low && not high || later) ≡ differs low (differs high later)
in_or_later true true true h k = refl
in_or_later true true false h k = refl
in_or_later true false true h k = absurd (false≢true (k refl))
in_or_later true false false h k = refl
in_or_later false true later h k = absurd (false≢true (h refl))
in_or_later false false true h k = absurd (false≢true (k refl))
in_or_later false false false h k = refl

later_past : (q : Rational) (e : Edge) (edges : List Edge) → Leads e edges → Rises edges → oddly_many (is_past q) edges ≡ true → is_past q e ≡ true
later_past q e edges leads rises h = by_test (is_past q e) refl
  where
    by_test : (t : Bool) → is_past q e ≡ t → t ≡ true
    by_test true p = refl
    by_test false p = absurd (false≢true (sym (none_after (is_past q) (is_downward q) e edges leads rises p) ∙ h))

-- a fraction is a member exactly where it is past an odd number of edges
pub members_edges : (pieces : List Interval) (q : Rational) → Rises (edges_of pieces) → members pieces q ≡ oddly_many (is_past q) (edges_of pieces)
members_edges [] q rises = refl
members_edges (piece ∷ pieces) q rises =
    ap₂ (λ a b. a || b) (ap₂ (λ a b. a && b) (above_past piece.low q) (below_past piece.high q)) (members_edges pieces q rises.1.1)
    ∙ in_or_later (is_past q (low_edge piece.low)) (is_past q (high_edge piece.high)) (oddly_many (is_past q) (edges_of pieces))
    (past_before q (low_edge piece.low) (high_edge piece.high) rises.0)
    (later_past q (high_edge piece.high) (edges_of pieces) rises.1.0 rises.1.1)

-- pieces have an even number of edges
pub even_edges : (pieces : List Interval) → oddly_many (λ e. true) (edges_of pieces) ≡ false
even_edges [] = refl
even_edges (piece ∷ pieces) = sym (not_twice (oddly_many (λ e. true) (edges_of pieces))) ∙ even_edges pieces

-- ---- edges made of pieces, and pieces made of edges
pub edges_of-push : (pieces : List Interval) (piece : Interval) → edges_of (pieces ++ piece ∷ []) ≡ edges_of pieces ++ low_edge piece.low ∷ high_edge piece.high ∷ []
edges_of-push [] piece = refl
edges_of-push (first ∷ pieces) piece = ap (λ edges. low_edge first.low ∷ high_edge first.high ∷ edges) (edges_of-push pieces piece)

-- two edges that are added make one more piece
pub edges_pushed : (pieces : List Interval) (i : ℕ) (piece : Interval) (edges : List Edge) → i < length pieces → piece ≡ get_or pieces i piece → edges ≡ edges_of (take i pieces) → (edges ++ low_edge piece.low ∷ []) ++ high_edge piece.high ∷ [] ≡ edges_of (take (i + 1) pieces)
edges_pushed pieces i piece edges within is so =
    append_assoc edges (low_edge piece.low ∷ []) (high_edge piece.high ∷ [])
    ∙ ap (λ x. x ++ low_edge piece.low ∷ high_edge piece.high ∷ []) so
    ∙ sym (edges_of-push (take i pieces) piece)
    ∙ ap (λ x. edges_of (take i pieces ++ x ∷ [])) is
    ∙ ap edges_of (sym (take_more pieces i piece within))

pub low_back : (e f : Edge) → stands_before e f ≡ true → low_edge (low_end e) ≡ e
low_back BelowAll f h = refl
low_back (Before p) f h = refl
low_back (After p) f h = refl
low_back AboveAll BelowAll h = cc
low_back AboveAll (Before q) h = cc
low_back AboveAll (After q) h = cc
low_back AboveAll AboveAll h = cc

pub high_back : (e f : Edge) → stands_before e f ≡ true → high_edge (high_end f) ≡ f
high_back BelowAll BelowAll h = cc
high_back (Before p) BelowAll h = cc
high_back (After p) BelowAll h = cc
high_back AboveAll BelowAll h = cc
high_back e (Before q) h = refl
high_back e (After q) h = refl
high_back e AboveAll h = refl

-- ---- a combination of sets, from that of their edges
pub made_of_edges : (how : Combination) (left right pieces : List Interval) (l r edges : List Edge) → l ≡ edges_of left → r ≡ edges_of right → edges_of pieces ≡ edges → IsCombination how l r edges → IsCombination how (edges_of left) (edges_of right) (edges_of pieces)
made_of_edges how left right pieces l r edges p q e made =
    let P : List Edge → Type 0 = λ x. IsCombination how x (edges_of right) (edges_of pieces) in
    let Q : List Edge → Type 0 = λ x. IsCombination how l x (edges_of pieces) in
    let R : List Edge → Type 0 = λ x. IsCombination how l r x in
    subst P p (subst Q q (subst R (sym e) made))

combination_none : (how : Combination) → in_combination how false false ≡ false
combination_none Union = refl
combination_none Meet = refl
combination_none Difference = refl

-- a combination of sets has an even number of edges
pub combination_even : (how : Combination) (left right : List Interval) (l r edges : List Edge) → l ≡ edges_of left → r ≡ edges_of right → IsCombination how l r edges → oddly_many (λ e. true) edges ≡ false
combination_even how left right l r edges p q made =
    made.changes (λ e. true) (λ e f h k. refl)
    ∙ ap₂ (in_combination how) (ap (oddly_many (λ e. true)) p ∙ even_edges left) (ap (oddly_many (λ e. true)) q ∙ even_edges right)
    ∙ combination_none how

pub combination_members : (how : Combination) (left right pieces : List Interval) → IsNormal left → IsNormal right → IsCombination how (edges_of left) (edges_of right) (edges_of pieces) → (q : Rational) → members pieces q ≡ in_combination how (members left q) (members right q)
combination_members how left right pieces l r made q =
    members_edges pieces q made.rising
    ∙ made.changes (is_past q) (is_downward q)
    ∙ sym (ap₂ (in_combination how) (members_edges left q (normal_rises left l.rising)) (members_edges right q (normal_rises right r.rising)))

pub combination_normal : (how : Combination) (left right : List Edge) (pieces : List Interval) → IsCombination how left right (edges_of pieces) → IsNormal pieces
combination_normal how left right pieces made = record { rising = rises_normal pieces made.rising; held = edges_held pieces made.held }
