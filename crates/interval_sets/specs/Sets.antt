-- Sets of fractions, kept as the intervals that make them up.
use Rattle.std.specs.Prelude.{Bool, true, false, not, ◌&&◌, List, [], ◌∷◌, ◌++◌, map, IsTrue}
use Rattle.std.specs.Prelude.{if◌then◌else◌}
use Rattle.std.specs.List.{list_any, flat_map}
use Rattle.exact_fraction.specs.Number.{Rational}
use Rattle.exact_fraction.specs.declared.relation.Relation.{Relation}
use Rattle.exact_fraction.specs.declared.relation.Relation.TheVariants.{Eq, Ne, Lt, Le, Gt, Ge}
use Rattle.interval_sets.specs.declared.interval.Bound.{Bound}
use Rattle.interval_sets.specs.declared.interval.Bound.TheVariants as end
use Rattle.interval_sets.specs.declared.interval.Interval.{Interval}
use Rattle.interval_sets.specs.Intervals.{lies_in, has_member, has_gap, overlap_of, hull_of}
use Rattle.interval_sets.specs.Intervals.{point_of, whole_line, IsHeld}

-- whether a fraction is a member of a set: it lies in one of the set's pieces
abbrev pub members : List Interval → Rational → Bool
members pieces q = list_any (λ piece. lies_in piece q) pieces

-- ---- normal form

-- whether a piece ends before the first of the pieces that follow it, so that some fraction lies
-- between the two
abbrev pub ends_before : Interval → List Interval → Bool
ends_before piece [] = true
ends_before piece (next ∷ pieces) = has_gap piece.high next.low

-- whether pieces are not empty and rise, and no two of them together are one interval
abbrev pub is_normal : List Interval → Bool
is_normal [] = true
is_normal (piece ∷ pieces) =
    has_member piece.low piece.high && ends_before piece pieces && is_normal pieces

-- each end of the pieces is none, or a number that a program holds
abbrev pub AreHeld : List Interval → Type 0
AreHeld [] = Unit {0}
AreHeld (piece ∷ pieces) = IsHeld piece.low × IsHeld piece.high × AreHeld pieces

-- the normal form of a set
pub record IsNormal (pieces : List Interval) : Type 0 where
  pub rising : IsTrue (is_normal pieces)
  pub held : AreHeld pieces

-- the pieces of a set in normal form with one more interval: it stands before the first piece that
-- it leaves a gap to, after each piece that leaves a gap to it, and is one piece with each that
-- leaves none
unfoldable pub and_interval : Interval → List Interval → List Interval
and_interval piece [] = piece ∷ []
and_interval piece (next ∷ pieces) =
    if has_gap piece.high next.low then piece ∷ next ∷ pieces
    else (if has_gap next.high piece.low then next ∷ and_interval piece pieces
    else and_interval (hull_of piece next) pieces)

-- the normal form of any intervals: the empty ones are left out, and the others are put together
-- one by one
unfoldable pub normal_form : List Interval → List Interval
normal_form [] = []
normal_form (piece ∷ pieces) =
    if has_member piece.low piece.high then and_interval piece (normal_form pieces)
    else normal_form pieces

-- ---- the sets that the operations make, each in normal form

-- the fractions that stand in a relation to a number
unfoldable pub set_of : Relation → Rational → List Interval
set_of Eq c = point_of c ∷ []
set_of Ne c =
    record { low = end.NoBound; high = end.Bound c true }
    ∷ record { low = end.Bound c true; high = end.NoBound } ∷ []
set_of Lt c = record { low = end.NoBound; high = end.Bound c true } ∷ []
set_of Le c = record { low = end.NoBound; high = end.Bound c false } ∷ []
set_of Gt c = record { low = end.Bound c true; high = end.NoBound } ∷ []
set_of Ge c = record { low = end.Bound c false; high = end.NoBound } ∷ []

-- the members of either of two sets
unfoldable pub union_of : List Interval → List Interval → List Interval
union_of a b = normal_form (a ++ b)

-- the overlaps of each piece of a set with each piece of another
abbrev pub overlaps_of : List Interval → List Interval → List Interval
overlaps_of a b = flat_map (λ piece. map (overlap_of piece) b) a

-- the members of both of two sets
unfoldable pub intersection_of : List Interval → List Interval → List Interval
intersection_of a b = normal_form (overlaps_of a b)

-- the fractions below a low end, and those above a high end
abbrev pub below_low : Bound → List Interval
below_low end.NoBound = []
below_low (end.Bound p left_out) =
    record { low = end.NoBound; high = end.Bound p (not left_out) } ∷ []

abbrev pub above_high : Bound → List Interval
above_high end.NoBound = []
above_high (end.Bound p left_out) =
    record { low = end.Bound p (not left_out); high = end.NoBound } ∷ []

-- the fractions that are no members: those that lie below or above each piece
unfoldable pub complement_of : List Interval → List Interval
complement_of [] = whole_line ∷ []
complement_of (piece ∷ pieces) =
    intersection_of (below_low piece.low ++ above_high piece.high) (complement_of pieces)
