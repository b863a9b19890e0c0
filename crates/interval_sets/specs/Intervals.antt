-- Intervals of fractions: which fractions lie in one, and the overlap and the hull of two.
use Rattle.std.specs.Prelude.{Bool, true, false, not, ◌&&◌, if◌then◌else◌}
use Rattle.exact_fraction.specs.Number.{Rational, IsNumber}
use Rattle.exact_fraction.specs.Order.{◌<ℚ◌, ◌≤ℚ◌, less}
use Rattle.interval_sets.specs.declared.interval.Bound.{Bound}
use Rattle.interval_sets.specs.declared.interval.Bound.TheVariants as end
use Rattle.interval_sets.specs.declared.interval.Interval.{Interval}

-- ---- which fractions lie in an interval

-- whether a fraction is on the inner side of a low end: above it, or at least it where the end is
-- not left out
abbrev pub is_above : Bound → Rational → Bool
is_above end.NoBound q = true
is_above (end.Bound p true) q = less p q
is_above (end.Bound p false) q = not (less q p)

-- whether a fraction is on the inner side of a high end: below it, or at most it where the end is
-- not left out
abbrev pub is_below : Bound → Rational → Bool
is_below end.NoBound q = true
is_below (end.Bound p true) q = less q p
is_below (end.Bound p false) q = not (less p q)

-- whether a fraction lies in an interval
abbrev pub lies_in : Interval → Rational → Bool
lies_in piece q = is_above piece.low q && is_below piece.high q

-- the same as relations, for lemmas on the order
abbrev pub IsAbove : Bound → Rational → Type 0
IsAbove end.NoBound q = Unit {0}
IsAbove (end.Bound p true) q = p <ℚ q
IsAbove (end.Bound p false) q = p ≤ℚ q

abbrev pub IsBelow : Bound → Rational → Type 0
IsBelow end.NoBound q = Unit {0}
IsBelow (end.Bound p true) q = q <ℚ p
IsBelow (end.Bound p false) q = q ≤ℚ p

pub record IsInside (piece : Interval) (q : Rational) : Type 0 where
  pub above : IsAbove piece.low q
  pub below : IsBelow piece.high q

-- ---- tests of two ends

-- whether some fraction lies between a low and a high end: the ends rise, or are one number that
-- neither leaves out
abbrev pub has_member : Bound → Bound → Bool
has_member (end.Bound p false) (end.Bound q false) = not (less q p)
has_member (end.Bound p m) (end.Bound q n) = less p q
has_member low high = true

-- whether some fraction lies above a high end and below a low end: the ends rise, or are one number
-- that both leave out
abbrev pub has_gap : Bound → Bound → Bool
has_gap (end.Bound p true) (end.Bound q true) = not (less q p)
has_gap (end.Bound p m) (end.Bound q n) = less p q
has_gap high low = false

-- whether the first of two low ends has a fraction on its inner side that the second leaves out
abbrev pub begins_earlier : Bound → Bound → Bool
begins_earlier first end.NoBound = false
begins_earlier end.NoBound second = true
begins_earlier (end.Bound p false) (end.Bound q true) = not (less q p)
begins_earlier (end.Bound p m) (end.Bound q n) = less p q

-- whether the second of two high ends has a fraction on its inner side that the first leaves out
abbrev pub ends_earlier : Bound → Bound → Bool
ends_earlier end.NoBound second = false
ends_earlier first end.NoBound = true
ends_earlier (end.Bound p true) (end.Bound q false) = not (less q p)
ends_earlier (end.Bound p m) (end.Bound q n) = less p q

-- ---- the overlap and the hull of two intervals

abbrev pub earlier_low : Bound → Bound → Bound
earlier_low a b = if begins_earlier b a then b else a

abbrev pub later_low : Bound → Bound → Bound
later_low a b = if begins_earlier a b then b else a

abbrev pub earlier_high : Bound → Bound → Bound
earlier_high a b = if ends_earlier b a then b else a

abbrev pub later_high : Bound → Bound → Bound
later_high a b = if ends_earlier a b then b else a

-- the fractions that lie in both of two intervals
abbrev pub overlap_of : Interval → Interval → Interval
overlap_of p q = record { low = later_low p.low q.low; high = earlier_high p.high q.high }

-- the fractions from the lower of two low ends to the higher of two high ends
abbrev pub hull_of : Interval → Interval → Interval
hull_of p q = record { low = earlier_low p.low q.low; high = later_high p.high q.high }

-- the interval of one fraction, and that of all fractions
abbrev pub point_of : Rational → Interval
point_of q = record { low = end.Bound q false; high = end.Bound q false }

abbrev pub whole_line : Interval
whole_line = record { low = end.NoBound; high = end.NoBound }

-- the end is none, or a number that a program holds
abbrev pub IsHeld : Bound → Type 0
IsHeld end.NoBound = Unit {0}
IsHeld (end.Bound p m) = IsNumber p
