-- The members of the sets that the operations make.
use Rattle.std.proofs.Common.{◌≡◌, Bool, true, false, not, List, [], ◌∷◌, ◌++◌, map, refl, sym, ap, ap₂, ◌∙◌}
use Rattle.std.specs.Prelude.{◌&&◌, ◌||◌, if◌then◌else◌}
use Rattle.std.proofs.lemmas.Bool.{not_from_false}
use Rattle.std.proofs.lemmas.List.Folds.{list_any-append}
use Rattle.exact_fraction.specs.Number.{Rational}
use Rattle.exact_fraction.specs.Order.{less}
use Rattle.exact_fraction.specs.Relations.{relates}
use Rattle.exact_fraction.specs.declared.relation.Relation.{Relation}
use Rattle.exact_fraction.specs.declared.relation.Relation.TheVariants.{Eq, Ne, Lt, Le, Gt, Ge}
use Rattle.interval_sets.specs.declared.interval.Bound.{Bound}
use Rattle.interval_sets.specs.declared.interval.Bound.TheVariants as end
use Rattle.interval_sets.specs.declared.interval.Interval.{Interval}
use Rattle.interval_sets.specs.Intervals.{is_above, is_below, lies_in, has_member, has_gap, overlap_of, hull_of}
use Rattle.interval_sets.specs.Sets.{members, and_interval, normal_form, set_of, union_of, overlaps_of, intersection_of, below_low, above_high, complement_of}
use Rattle.interval_sets.proofs.Convex.{none_lies}
use Rattle.interval_sets.proofs.Ends.{overlap_members, hull_members}
use Rattle.interval_sets.proofs.OfRelation.{point_test, others_test}
use Rattle.interval_sets.proofs.PieceEdges.{not_twice}

-- ---- tests
or_false : (a : Bool) → (a || false) ≡ a
or_false true = refl
or_false false = refl

or_through : (a b c : Bool) → (b || (a || c)) ≡ (a || (b || c))
or_through true true c = refl
or_through true false c = refl
or_through false b c = refl

or_apart : (a b c : Bool) → ((a || b) || c) ≡ (a || (b || c))
or_apart true b c = refl
or_apart false b c = refl

and_apart : (a b c : Bool) → ((a && b) || (a && c)) ≡ (a && (b || c))
and_apart true b c = refl
and_apart false b c = refl

and_beside : (a b c : Bool) → ((a && c) || (b && c)) ≡ ((a || b) && c)
and_beside true true true = refl
and_beside true true false = refl
and_beside true false c = or_false c
and_beside false b c = refl

not_and : (a b : Bool) → (not a || not b) ≡ not (a && b)
not_and true b = refl
not_and false b = refl

not_or : (a b : Bool) → (not a && not b) ≡ not (a || b)
not_or true b = refl
not_or false b = refl

and_true : (a : Bool) → (a && true) ≡ a
and_true true = refl
and_true false = refl

-- ---- normal form
add_by : (s t : Bool) (piece next : Interval) (pieces later joined : List Interval) (q : Rational)
    → has_gap piece.high next.low ≡ s → has_gap next.high piece.low ≡ t
    → members later q ≡ (lies_in piece q || members pieces q)
    → members joined q ≡ (lies_in (hull_of piece next) q || members pieces q)
    → members (if s then piece ∷ next ∷ pieces else (if t then next ∷ later else joined)) q ≡ (lies_in piece q || (lies_in next q || members pieces q))
add_by true t piece next pieces later joined q h k l j = refl
add_by false true piece next pieces later joined q h k l j =
    ap (λ x. lies_in next q || x) l ∙ or_through (lies_in piece q) (lies_in next q) (members pieces q)
add_by false false piece next pieces later joined q h k l j =
    j ∙ ap (λ x. x || members pieces q) (hull_members piece next q h k) ∙ or_apart (lies_in piece q) (lies_in next q) (members pieces q)

pub and_interval_members : (piece : Interval) (pieces : List Interval) (q : Rational) → members (and_interval piece pieces) q ≡ (lies_in piece q || members pieces q)
unfolding and_interval
and_interval_members piece [] q = refl
and_interval_members piece (next ∷ pieces) q =
    add_by (has_gap piece.high next.low) (has_gap next.high piece.low) piece next pieces (and_interval piece pieces) (and_interval (hull_of piece next) pieces) q refl refl
    (and_interval_members piece pieces q)
    (and_interval_members (hull_of piece next) pieces q)

take_by : (t : Bool) (piece : Interval) (pieces later : List Interval) (q : Rational) → has_member piece.low piece.high ≡ t → members later q ≡ members pieces q
    → members (if t then and_interval piece later else later) q ≡ (lies_in piece q || members pieces q)
take_by true piece pieces later q h l = and_interval_members piece later q ∙ ap (λ x. lies_in piece q || x) l
take_by false piece pieces later q h l =
    l ∙ ap (λ x. x || members pieces q) (sym ((none_lies piece).0 (not_from_false (has_member piece.low piece.high) h) q))

pub normal_form_members : (pieces : List Interval) (q : Rational) → members (normal_form pieces) q ≡ members pieces q
unfolding normal_form
normal_form_members [] q = refl
normal_form_members (piece ∷ pieces) q =
    take_by (has_member piece.low piece.high) piece pieces (normal_form pieces) q refl (normal_form_members pieces q)

-- ---- the operations
pub union_members : (a b : List Interval) (q : Rational) → members (union_of a b) q ≡ (members a q || members b q)
unfolding union_of
union_members a b q = normal_form_members (a ++ b) q ∙ list_any-append (λ piece. lies_in piece q) a b

beside_members : (piece : Interval) (b : List Interval) (q : Rational) → members (map (overlap_of piece) b) q ≡ (lies_in piece q && members b q)
beside_members piece [] q = sym (none (lies_in piece q))
  where
    none : (a : Bool) → (a && false) ≡ false
    none true = refl
    none false = refl
beside_members piece (next ∷ b) q =
    ap₂ (λ x y. x || y) (overlap_members piece next q) (beside_members piece b q)
    ∙ and_apart (lies_in piece q) (lies_in next q) (members b q)

overlaps_members : (a b : List Interval) (q : Rational) → members (overlaps_of a b) q ≡ (members a q && members b q)
overlaps_members [] b q = refl
overlaps_members (piece ∷ a) b q =
    list_any-append (λ x. lies_in x q) (map (overlap_of piece) b) (overlaps_of a b)
    ∙ ap₂ (λ x y. x || y) (beside_members piece b q) (overlaps_members a b q)
    ∙ and_beside (lies_in piece q) (members a q) (members b q)

pub intersection_members : (a b : List Interval) (q : Rational) → members (intersection_of a b) q ≡ (members a q && members b q)
unfolding intersection_of
intersection_members a b q = normal_form_members (overlaps_of a b) q ∙ overlaps_members a b q

below_members : (low : Bound) (q : Rational) → members (below_low low) q ≡ not (is_above low q)
below_members end.NoBound q = refl
below_members (end.Bound p true) q = or_false (not (less p q))
below_members (end.Bound p false) q = or_false (less q p) ∙ not_twice (less q p)

above_members : (high : Bound) (q : Rational) → members (above_high high) q ≡ not (is_below high q)
above_members end.NoBound q = refl
above_members (end.Bound p true) q = or_false (not (less q p) && true) ∙ and_true (not (less q p))
above_members (end.Bound p false) q = or_false (less p q && true) ∙ and_true (less p q) ∙ not_twice (less p q)

outside_members : (piece : Interval) (q : Rational) → members (below_low piece.low ++ above_high piece.high) q ≡ not (lies_in piece q)
outside_members piece q =
    list_any-append (λ x. lies_in x q) (below_low piece.low) (above_high piece.high)
    ∙ ap₂ (λ x y. x || y) (below_members piece.low q) (above_members piece.high q)
    ∙ not_and (is_above piece.low q) (is_below piece.high q)

pub complement_members : (a : List Interval) (q : Rational) → members (complement_of a) q ≡ not (members a q)
unfolding complement_of
complement_members [] q = refl
complement_members (piece ∷ a) q =
    intersection_members (below_low piece.low ++ above_high piece.high) (complement_of a) q
    ∙ ap₂ (λ x y. x && y) (outside_members piece q) (complement_members a q)
    ∙ not_or (lies_in piece q) (members a q)

pub set_members : (rel : Relation) (c q : Rational) → members (set_of rel c) q ≡ relates rel q c
unfolding set_of
set_members Eq c q = point_test q c
set_members Ne c q = others_test q c
set_members Lt c q = or_false (less q c)
set_members Le c q = or_false (not (less c q))
set_members Gt c q = or_false (less c q && true) ∙ and_true (less c q)
set_members Ge c q = or_false (not (less q c) && true) ∙ and_true (not (less q c))
