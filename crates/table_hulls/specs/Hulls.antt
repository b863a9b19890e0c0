-- The hulls of the values of curves and series: intervals that hold every value that is defined
-- over an interval of x, or over the moments from one to another.
use Rattle.std.specs.Prelude.{Bool, false, if◌then◌else◌, Option, None, Some}
use Rattle.std.specs.Prelude.{Result, Ok, Err, List, [], ◌∷◌}
use Rattle.std.specs.Prelude.{ℤ, pos, neg_ℤ, ◌+ℤ◌, ◌-ℤ◌, ◌*ℤ◌, int_le}
use Rattle.std.specs.Int.{int_div_euclid}
use Rattle.exact_fraction.specs.Number.{Rational, den, zero}
use Rattle.exact_fraction.specs.Order.{less}
use Rattle.exact_fraction.specs.declared.error.Overflow.{Overflow}
use Rattle.interval_sets.specs.Intervals.{has_member, later_low, earlier_high, hull_of, point_of}
use Rattle.interval_sets.specs.declared.interval.Bound.{Bound}
use Rattle.interval_sets.specs.declared.interval.Bound.TheVariants as end
use Rattle.interval_sets.specs.declared.interval.Interval.{Interval}
use Rattle.rule_meaning.specs.CheckedSteps.{◌>>=◌}
use Rattle.rule_meaning.specs.Clock.{hours_of}
use Rattle.rule_meaning.specs.StraightLines.{line_from}
use Rattle.rule_types.specs.Tables.{SeriesTable}
use Rattle.rule_types.specs.declared.table.Point.{Point}

-- the part of the argument from a low end to a high end, if it has a member
abbrev pub Part : Type 0
Part = Bound → Bound → Option Interval

-- whether an end is left out
abbrev pub is_left_out : Bound → Bool
is_left_out end.NoBound = false
is_left_out (end.Bound x left_out) = left_out

-- the value of the straight line from one point to the next at an end of a part between them
abbrev pub value_at_end : Point → Point → Bound → Result Rational Overflow
value_at_end p q end.NoBound = Ok p.y
value_at_end p q (end.Bound x left_out) = line_from p (q ∷ []) x

-- the values of the straight line over a part between its two points, from the values at the ends
-- of the part: they rise, fall, or are all the same
unfoldable pub values_between : Point → Point → Interval → Rational → Rational → Interval
values_between p q over low high =
    if less p.y q.y
    then record {
      low = end.Bound low (is_left_out over.low);
      high = end.Bound high (is_left_out over.high);
    }
    else (if less q.y p.y
    then record {
      low = end.Bound high (is_left_out over.high);
      high = end.Bound low (is_left_out over.low);
    }
    else point_of p.y)

-- the values over a part between two points, if it has a member; each step at its ends must fit
abbrev pub values_over : Point → Point → Option Interval → Result (Option Interval) Overflow
values_over p q None = Ok None
values_over p q (Some over) = do
  low ← value_at_end p q over.low
  high ← value_at_end p q over.high
  Ok (Some (values_between p q over low high))

-- the value of the first or the last point, where the part up to it or from it on has a member
abbrev pub value_of_point : Point → Option Interval → Option Interval
value_of_point p None = None
value_of_point p (Some over) = Some (point_of p.y)

-- the hull of what there is of two
abbrev pub hull_of_both : Option Interval → Option Interval → Option Interval
hull_of_both None b = b
hull_of_both (Some a) None = Some a
hull_of_both (Some a) (Some b) = Some (hull_of a b)

-- the values from a point on
unfoldable pub values_from : Part → Point → List Point → Result (Option Interval) Overflow
values_from part p [] = Ok (value_of_point p (part (end.Bound p.x false) end.NoBound))
values_from part p (q ∷ more) = do
  first ← values_over p q (part (end.Bound p.x false) (end.Bound q.x false))
  later ← values_from part q more
  Ok (hull_of_both first later)

-- all values, if there is one; there is no table without a point
unfoldable pub all_values : Part → List Point → Result (Option Interval) Overflow
all_values part [] = Ok None
all_values part (p ∷ more) = do
  later ← values_from part p more
  Ok (hull_of_both (value_of_point p (part end.NoBound (end.Bound p.x false))) later)

-- the ends of an interval whose members count as 0 where they are below 0
abbrev pub clamped_low : Bound → Bound
clamped_low end.NoBound = end.Bound zero false
clamped_low (end.Bound x left_out) =
    if less x zero then end.Bound zero false else end.Bound x left_out

abbrev pub clamped_high : Bound → Bound
clamped_high end.NoBound = end.NoBound
clamped_high (end.Bound x left_out) =
    if less zero x then end.Bound x left_out else end.Bound zero false

abbrev pub clamped : Interval → Interval
clamped values = record { low = clamped_low values.low; high = clamped_high values.high }

-- all numbers from 0 on
abbrev pub from_zero : Interval
from_zero = record { low = end.Bound zero false; high = end.NoBound }

abbrev pub clamped_or_all : Result (Option Interval) Overflow → Interval
clamped_or_all (Ok None) = from_zero
clamped_or_all (Ok (Some values)) = clamped values
clamped_or_all (Err why) = from_zero

-- the hull of a table's values over an argument that is given by its parts: the least interval of
-- these values, each at least 0, and all numbers from 0 on where a step at an end of a part does
-- not fit
unfoldable pub table_hull : Part → List Point → Interval
table_hull part points = clamped_or_all (all_values part points)

-- the part of an interval between two ends
abbrev pub some_between : Bound → Bound → Option Interval
some_between low high =
    if has_member low high then Some (record { low = low; high = high }) else None

unfoldable pub interval_part : Interval → Part
interval_part over low high =
    some_between (later_low over.low low) (earlier_high over.high high)

-- The hull of a curve over an interval of x (SWMM 5.2 manual, [CURVES]).
unfoldable pub curve_hull : List Point → Interval → Interval
curve_hull points over = table_hull (interval_part over) points

-- the first second at or after x hours, and the last one at or before it, counted from `base`
unfoldable pub second_from : ℤ → Rational → ℤ
second_from base x =
    base -ℤ int_div_euclid (neg_ℤ (x.num *ℤ pos 3600)) (pos (den x))

unfoldable pub second_up_to : ℤ → Rational → ℤ
second_up_to base x = base +ℤ int_div_euclid (x.num *ℤ pos 3600) (pos (den x))

-- the later and the earlier of two seconds
abbrev pub later_second : ℤ → ℤ → ℤ
later_second a b = if int_le a b then b else a

abbrev pub earlier_second : ℤ → ℤ → ℤ
earlier_second a b = if int_le a b then a else b

-- the first second, from `first` on, at or after a low end, and the last one, up to `last`, at or
-- before a high end
abbrev pub first_second_at : ℤ → ℤ → Bound → ℤ
first_second_at base first end.NoBound = first
first_second_at base first (end.Bound x left_out) = later_second first (second_from base x)

abbrev pub last_second_at : ℤ → ℤ → Bound → ℤ
last_second_at base last end.NoBound = last
last_second_at base last (end.Bound x left_out) = earlier_second last (second_up_to base x)

-- the hours from one second to another, both counted, if there is one
unfoldable pub hours_between : ℤ → ℤ → ℤ → Option Interval
hours_between base first last =
    if int_le first last
    then Some (record {
      low = end.Bound (hours_of (first -ℤ base)) false;
      high = end.Bound (hours_of (last -ℤ base)) false;
    })
    else None

-- the part of the seconds from `first` to `last` between two ends, which are no ends left out
unfoldable pub seconds_part : ℤ → ℤ → ℤ → Part
seconds_part base first last low high =
    hours_between base (first_second_at base first low) (last_second_at base last high)

-- the second from which the x of a series are counted
abbrev pub base_of : SeriesTable → ℤ → ℤ
base_of series start = if series.dated then pos 0 else start

-- The hull of a series over the moments from one to another (SWMM 5.2 manual, [TIMESERIES]).
unfoldable pub series_hull : SeriesTable → ℤ → ℤ → ℤ → Interval
series_hull series start first last =
    table_hull (seconds_part (base_of series start) first last) series.points
