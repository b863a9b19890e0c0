-- The values of curves and series: straight lines between their points.
use Rattle.std.specs.Prelude.{◌≡◌, ℕ, suc, if◌then◌else◌, Some, Result, Ok, Err, List, [], ◌∷◌}
use Rattle.std.specs.Prelude.{length, slice_get, ℤ, ◌-ℤ◌}
use Rattle.exact_fraction.specs.Number.{Rational, zero}
use Rattle.exact_fraction.specs.Operations.{sum_of, difference_of, product_of, quotient_of, line_at}
use Rattle.exact_fraction.specs.Order.{◌≤ℚ◌, ◌<ℚ◌, ◌=ℚ◌, less, greater_of}
use Rattle.exact_fraction.specs.Checked.{checked}
use Rattle.exact_fraction.specs.declared.error.Overflow.{Overflow}
use Rattle.rule_types.specs.declared.table.Point.{Point}
use Rattle.rule_types.specs.Tables.{SeriesTable}
use Rattle.rule_meaning.specs.Clock.{hours_of}
use Rattle.rule_meaning.specs.CheckedSteps.{◌>>=◌}

-- the straight line between two points, in the order of its steps, of which each must fit (SWMM 5.2
-- manual, [CURVES])
unfoldable pub between : Point → Point → Rational → Result Rational Overflow
between p q x = do
  rise ← checked (difference_of q.y p.y)
  from ← checked (difference_of x p.x)
  run ← checked (difference_of q.x p.x)
  product ← checked (product_of rise from)
  quotient ← checked (quotient_of product run)
  checked (sum_of p.y quotient)

-- the value at x where the line goes on from a point: up to the point it is that point's y, and so
-- it is at the last point and past it (SWMM 5.2 manual, [CURVES])
unfoldable pub line_from : Point → List Point → Rational → Result Rational Overflow
line_from p [] x = Ok p.y
line_from p (q ∷ more) x =
    if less p.x x then (if less x q.x then between p q x else line_from q more x) else Ok p.y

-- a result below 0 counts as 0
abbrev pub at_least_zero : Result Rational Overflow → Result Rational Overflow
at_least_zero (Ok y) = Ok (greater_of zero y)
at_least_zero (Err why) = Err why

-- the value at x of points that rise (SWMM 5.2 manual, [CURVES] and [TIMESERIES]); there is no
-- table without a point
unfoldable pub line_value : List Point → Rational → Result Rational Overflow
line_value [] x = Ok zero
line_value (p ∷ more) x = at_least_zero (line_from p more x)

-- y is the value at x of the straight line through points that rise: up to the first point that
-- point's y, at a point its y, between two neighbours the value of the straight line through them,
-- from the last point on that point's y (SWMM 5.2 manual, [CURVES])
pub data IsOnLine (points : List Point) (x y : Rational) : Type 0 where
  UpToFirst : (p : Point) → slice_get points 0 ≡ Some p → x ≤ℚ p.x → y ≡ p.y → IsOnLine points x y
  AtPoint : (place : ℕ) (p : Point) → slice_get points place ≡ Some p → x =ℚ p.x → y ≡ p.y
      → IsOnLine points x y
  Inside : (place : ℕ) (p q : Point) → slice_get points place ≡ Some p
      → slice_get points (suc place) ≡ Some q → p.x <ℚ x → x <ℚ q.x → y ≡ line_at p.x p.y q.x q.y x
      → IsOnLine points x y
  FromLast : (place : ℕ) (p : Point) → slice_get points place ≡ Some p → suc place ≡ length points
      → p.x ≤ℚ x → y ≡ p.y → IsOnLine points x y

-- the value at x of a curve or a series: that of its straight line, and 0 where that is below 0
-- (SWMM 5.2 manual, [CURVES] and [TIMESERIES])
pub record IsTableValue (points : List Point) (x y : Rational) : Type 0 where
  pub line : Rational
  pub on_line : IsOnLine points x line
  pub at_least_zero : y ≡ greater_of zero line

-- the x of a moment in a series: hours since 1970-01-01 where it is dated, else since the start
-- (SWMM 5.2 manual, [TIMESERIES])
unfoldable pub series_x : SeriesTable → ℤ → ℤ → Rational
series_x series start moment = if series.dated then hours_of moment else hours_of (moment -ℤ start)
