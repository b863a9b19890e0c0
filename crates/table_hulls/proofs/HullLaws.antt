-- The hulls of curves and series hold their values.
use Rattle.std.proofs.Common.{◌≡◌, Bool, true, false, cond, Result, Ok, Err, List, ℤ, pos, ◌-ℤ◌, ◌≤ℤ◌, refl, ap, subst, arith}
use Rattle.std.specs.Prelude.{IsTrue, IfOk}
use Rattle.std.proofs.lemmas.Int.{ints}
use Rattle.exact_fraction.specs.Number.{Rational}
use Rattle.exact_fraction.specs.declared.error.Overflow.{Overflow}
use Rattle.interval_sets.specs.Intervals.{lies_in}
use Rattle.interval_sets.specs.declared.interval.Interval.{Interval}
use Rattle.rule_types.specs.declared.table.Point.{Point}
use Rattle.rule_types.specs.Tables.{SeriesTable, IsPointList}
use Rattle.rule_meaning.specs.Clock.{hours_of}
use Rattle.rule_meaning.specs.StraightLines.{line_value, series_x, IsTableValue}
use Rattle.rule_meaning.proofs.PublicLaws.{values-on_line}
use Rattle.table_hulls.specs.Hulls.{curve_hull, interval_part, seconds_part, base_of, series_hull}
use Rattle.table_hulls.proofs.HullHolds.{table_holds}
use Rattle.table_hulls.proofs.HullParts.{interval_has, seconds_have}

pub curve_holds : (points : List Point) (over : Interval) (x y : Rational) → IsPointList points → IsTrue (lies_in over x) → IsTableValue points x y → IsTrue (lies_in (curve_hull points over) y)
unfolding curve_hull
curve_holds points over x y list h value = table_holds (interval_part over) points x y list (interval_has over x h) value

-- the x of a moment is counted from the base
x_by : (dated : Bool) (start moment : ℤ) → cond dated (hours_of moment) (hours_of (moment -ℤ start)) ≡ hours_of (moment -ℤ cond dated (pos 0) start)
x_by true start moment =
    let same : moment ≡ moment -ℤ pos 0 = omega (arith, ints) in
    ap hours_of same
x_by false start moment = refl

x_is : (series : SeriesTable) (start moment : ℤ) → series_x series start moment ≡ hours_of (moment -ℤ base_of series start)
unfolding series_x
x_is series start moment = x_by series.dated start moment

pub series_holds : (series : SeriesTable) (start first last moment : ℤ) (y : Rational) → IsPointList series.points → first ≤ℤ moment → moment ≤ℤ last → IsTableValue series.points (series_x series start moment) y → IsTrue (lies_in (series_hull series start first last) y)
unfolding series_hull
series_holds series start first last moment y list from to value =
    let base = base_of series start in
    table_holds (seconds_part base first last) series.points (hours_of (moment -ℤ base)) y list (seconds_have base first last moment from to)
    (subst (λ x. IsTableValue series.points x y) (x_is series start moment) value)

ok_by : (r : Result Rational Overflow) (P : Rational → Type 0) → ((y : Rational) → r ≡ Ok y → P y) → IfOk r P
ok_by (Ok y) P h = h y refl
ok_by (Err why) P h = tt

pub curve_computed : (points : List Point) (over : Interval) (x : Rational) → IsPointList points → IsTrue (lies_in over x) → IfOk (line_value points x) (λ y. IsTrue (lies_in (curve_hull points over) y))
curve_computed points over x list h =
    ok_by (line_value points x) (λ y. IsTrue (lies_in (curve_hull points over) y))
    (λ y e. curve_holds points over x y list h (values-on_line points x y list.pointed e))

pub series_computed : (series : SeriesTable) (start first last moment : ℤ) → IsPointList series.points → first ≤ℤ moment → moment ≤ℤ last → IfOk (line_value series.points (series_x series start moment)) (λ y. IsTrue (lies_in (series_hull series start first last) y))
series_computed series start first last moment list from to =
    ok_by (line_value series.points (series_x series start moment)) (λ y. IsTrue (lies_in (series_hull series start first last) y))
    (λ y e. series_holds series start first last moment y list from to (values-on_line series.points (series_x series start moment) y list.pointed e))
