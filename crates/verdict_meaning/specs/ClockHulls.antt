-- Hulls of the clock over the moments of a box.
use Rattle.std.specs.Prelude.{Bool, true, false, if◌then◌else◌, Option, Some, None, ℤ, pos}
use Rattle.std.specs.Ordering.{int_eq}
use Rattle.exact_fraction.specs.Number.{Rational, whole, zero, one}
use Rattle.interval_sets.specs.declared.interval.Bound.TheVariants as end
use Rattle.interval_sets.specs.declared.interval.Interval.{Interval}
use Rattle.interval_sets.specs.Intervals.{whole_line}
use Rattle.rule_types.specs.declared.key.ClockAttr.{ClockAttr}
use Rattle.rule_types.specs.declared.key.ClockAttr.TheVariants.{Time, Date, Month, Day, ClockTime}
use Rattle.rule_types.specs.declared.key.ClockAttr.TheVariants.{DayOfYear}
use Rattle.rule_meaning.specs.Clock.{day_of, clock_value}
use Rattle.verdict_meaning.specs.Hulls.{closed}

-- whether two moments lie in one civil day
unfoldable pub in_one_day : ℤ → ℤ → Bool
in_one_day first last = int_eq (day_of first) (day_of last)

-- from the value at the first moment to that at the last
unfoldable pub value_span : ClockAttr → ℤ → ℤ → ℤ → Interval
value_span attribute start first last =
    closed (clock_value attribute start first) (clock_value attribute start last)

-- the values that an attribute of the clock can have over several days: MONTH 1 to 12, DAY 1 to 7,
-- CLOCKTIME from 0 and below 24 hours, DAYOFYEAR 1 to 366
unfoldable pub all_values : ClockAttr → Interval
all_values Time = whole_line
all_values Date = whole_line
all_values Month = closed one (whole (pos 12))
all_values Day = closed one (whole (pos 7))
all_values ClockTime = record { low = end.Bound zero false; high = end.Bound (whole (pos 24)) true }
all_values DayOfYear = closed one (whole (pos 366))

-- the hull of an attribute of the clock from a first to a last moment: TIME and DATE never fall,
-- and within one civil day no attribute does
unfoldable pub span_hull : ClockAttr → ℤ → ℤ → ℤ → Interval
span_hull Time start first last = value_span Time start first last
span_hull Date start first last = value_span Date start first last
span_hull attribute start first last =
    if in_one_day first last then value_span attribute start first last else all_values attribute

-- the same over the moments of a box, and the whole line where it has none
unfoldable pub clock_hull : ClockAttr → ℤ → Option (ℤ × ℤ) → Interval
clock_hull attribute start None = whole_line
clock_hull attribute start (Some span) = span_hull attribute start span.0 span.1
