-- Hulls of operations: intervals that hold the results on all members of other intervals.
use Rattle.std.specs.Prelude.{ℕ, suc, Bool, true, false, not, ◌&&◌, ◌||◌, if◌then◌else◌}
use Rattle.std.specs.Prelude.{Result, Ok, Err}
use Rattle.std.specs.Prelude.{zero as nothing}
use Rattle.exact_fraction.specs.Number.{Rational, zero, one}
use Rattle.exact_fraction.specs.Operations.{sum_of, difference_of, product_of, quotient_of}
use Rattle.exact_fraction.specs.Operations.{negation_of}
use Rattle.exact_fraction.specs.Order.{less, greater_of, lesser_of}
use Rattle.exact_fraction.specs.Checked.{checked}
use Rattle.exact_fraction.specs.declared.error.Overflow.{Overflow}
use Rattle.interval_sets.specs.declared.interval.Bound.{Bound}
use Rattle.interval_sets.specs.declared.interval.Bound.TheVariants as end
use Rattle.interval_sets.specs.declared.interval.Interval.{Interval}
use Rattle.interval_sets.specs.Intervals.{lies_in, later_high, point_of, whole_line}
use Rattle.rule_meaning.specs.CheckedSteps.{◌>>=◌}

-- ---- intervals

-- the numbers from p to q, with both
abbrev pub closed : Rational → Rational → Interval
closed p q = record { low = end.Bound p false; high = end.Bound q false }

-- the interval, or the whole line where a number that it is made from does not fit
abbrev pub or_line : Result Interval Overflow → Interval
or_line (Ok piece) = piece
or_line (Err why) = whole_line

-- ---- sums and differences

-- an end that an operation makes from two ends: none where one of the two is none, and left out
-- where one of them is
abbrev pub end_by : (Rational → Rational → Rational) → Bound → Bound → Result Bound Overflow
end_by f end.NoBound other = Ok end.NoBound
end_by f (end.Bound p m) end.NoBound = Ok end.NoBound
end_by f (end.Bound p m) (end.Bound q n) = do
  r ← checked (f p q)
  Ok (end.Bound r (m || n))

unfoldable pub sum_end : Bound → Bound → Result Bound Overflow
sum_end a b = end_by sum_of a b

unfoldable pub difference_end : Bound → Bound → Result Bound Overflow
difference_end a b = end_by difference_of a b

abbrev pub between_ends : Result Bound Overflow → Result Bound Overflow → Result Interval Overflow
between_ends low high = do
  first ← low
  last ← high
  Ok (record { low = first; high = last })

-- the sums of members: from the sum of the low ends to the sum of the high ends
unfoldable pub sum_hull : Interval → Interval → Interval
sum_hull a b = or_line (between_ends (sum_end a.low b.low) (sum_end a.high b.high))

-- the differences: from the left low end less the right high end to the left high end less the
-- right low end
unfoldable pub difference_hull : Interval → Interval → Interval
difference_hull a b =
    or_line (between_ends (difference_end a.low b.high) (difference_end a.high b.low))

-- ---- the least intervals that hold -x, abs(x), sgn(x) and step(x) for all members x

-- an end on the other side of 0
abbrev pub turned : Bound → Bound
turned end.NoBound = end.NoBound
turned (end.Bound p m) = end.Bound (negation_of p) m

unfoldable pub negation_hull : Interval → Interval
negation_hull a = record { low = turned a.high; high = turned a.low }

-- whether an interval with this low end begins below 0, and one with this high end ends above it
unfoldable pub begins_below_zero : Bound → Bool
begins_below_zero end.NoBound = true
begins_below_zero (end.Bound p m) = less p zero

unfoldable pub ends_above_zero : Bound → Bool
ends_above_zero end.NoBound = true
ends_above_zero (end.Bound p m) = less zero p

-- on one side of 0 the interval itself or its negation, else from 0 to the farther end
unfoldable pub size_hull : Interval → Interval
size_hull a =
    if begins_below_zero a.low
    then (
    if ends_above_zero a.high
    then record { low = end.Bound zero false; high = later_high (turned a.low) a.high }
    else negation_hull a)
    else a

-- the least and the greatest sign of a member
unfoldable pub least_sign : Interval → Rational
least_sign a =
    if begins_below_zero a.low then negation_of one else (if lies_in a zero then zero else one)

unfoldable pub greatest_sign : Interval → Rational
greatest_sign a =
    if ends_above_zero a.high then one else (if lies_in a zero then zero else negation_of one)

unfoldable pub sign_hull : Interval → Interval
sign_hull a = closed (least_sign a) (greatest_sign a)

-- the least and the greatest step of a member
unfoldable pub least_step : Interval → Rational
least_step a = if begins_below_zero a.low || lies_in a zero then zero else one

unfoldable pub greatest_step : Interval → Rational
greatest_step a = if ends_above_zero a.high then one else zero

unfoldable pub step_hull : Interval → Interval
step_hull a = closed (least_step a) (greatest_step a)

-- ---- products and quotients

-- the closed interval from the least to the greatest of four numbers
unfoldable pub spanned : Rational → Rational → Rational → Rational → Interval
spanned a b c d =
    closed (lesser_of (lesser_of a b) (lesser_of c d))
    (greater_of (greater_of a b) (greater_of c d))

-- the same of the four results of an operation on an end p or q and an end r or s
abbrev pub by_corners : (Rational → Rational → Rational) → Rational → Rational → Rational → Rational
    → Result Interval Overflow
by_corners f p q r s = do
  a ← checked (f p r)
  b ← checked (f q r)
  c ← checked (f p s)
  d ← checked (f q s)
  Ok (spanned a b c d)

-- what two ends give, and the whole line where one of them is none
abbrev pub on_ends : Bound → Bound → (Rational → Rational → Interval) → Interval
on_ends (end.Bound p m) (end.Bound q n) f = f p q
on_ends (end.Bound p m) end.NoBound f = whole_line
on_ends end.NoBound high f = whole_line

unfoldable pub product_corners : Rational → Rational → Rational → Rational → Interval
product_corners p q r s = or_line (by_corners product_of p q r s)

unfoldable pub product_hull : Interval → Interval → Interval
product_hull a b =
    on_ends a.low a.high (λ p q. on_ends b.low b.high (λ r s. product_corners p q r s))

-- whether two ends are on one side of 0: an interval with members from r to s then neither holds 0
-- nor has it as an end
unfoldable pub on_one_side : Rational → Rational → Bool
on_one_side r s = (less zero r && less zero s) || (less r zero && less s zero)

unfoldable pub quotient_corners : Rational → Rational → Rational → Rational → Interval
quotient_corners p q r s =
    if on_one_side r s then or_line (by_corners quotient_of p q r s) else whole_line

unfoldable pub quotient_hull : Interval → Interval → Interval
quotient_hull a b =
    on_ends a.low a.high (λ p q. on_ends b.low b.high (λ r s. quotient_corners p q r s))

-- ---- powers

-- the power 0 is 1, and the power n + 1 is the product of the power n and the operand
unfoldable pub power_hull : Interval → ℕ → Interval
power_hull a nothing = point_of one
power_hull a (suc n) = product_hull (power_hull a n) a
