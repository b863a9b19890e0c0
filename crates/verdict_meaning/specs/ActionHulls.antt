-- Hulls of what actions are worth in a box.
use Rattle.std.specs.Prelude.{ℕ, Bool, true, false, not, ◌&&◌, ◌||◌, if◌then◌else◌}
use Rattle.std.specs.Prelude.{Option, Some, None, List, ℤ}
use Rattle.exact_fraction.specs.Number.{Rational, zero, one}
use Rattle.exact_fraction.specs.Order.{less}
use Rattle.interval_sets.specs.declared.interval.Bound.{Bound}
use Rattle.interval_sets.specs.declared.interval.Bound.TheVariants as end
use Rattle.interval_sets.specs.declared.interval.Interval.{Interval}
use Rattle.interval_sets.specs.Intervals.{begins_earlier, ends_earlier, point_of}
use Rattle.rule_types.specs.declared.action.What.{What}
use Rattle.rule_types.specs.declared.action.What.TheVariants.{Constant, Curve, Series, Pid}
use Rattle.rule_types.specs.declared.condition.Condition.{Condition}
use Rattle.rule_types.specs.declared.rules.Rules.{Rules}
use Rattle.rule_types.specs.Tables.{TableSet, CurveTable, SeriesTable, curve_at, series_at}
use Rattle.rule_types.specs.WellFormed.{has_rate}
use Rattle.rule_meaning.specs.Worth.{is_pump, rate_of, last_of}
use Rattle.verdict_meaning.specs.declared.cell.Cell.{Cell}
use Rattle.verdict_meaning.specs.declared.truth.Reach.{Reach}
use Rattle.verdict_meaning.specs.declared.truth.Reach.TheVariants.{Missing, Within}
use Rattle.table_hulls.specs.Hulls.{curve_hull, from_zero, series_hull}
use Rattle.verdict_meaning.specs.Hulls.{closed}
use Rattle.verdict_meaning.specs.Premises.{start_of}
use Rattle.verdict_meaning.specs.Reaches.{left_reach, right_reach}

-- ---- what numbers above 1 count as

-- the ends of an interval whose members count as 1 where they are above 1
unfoldable pub capped_low : Bound → Bound
capped_low end.NoBound = end.NoBound
capped_low (end.Bound p m) = if less p one then end.Bound p m else end.Bound one false

unfoldable pub capped_high : Bound → Bound
capped_high end.NoBound = end.Bound one false
capped_high (end.Bound p m) = if less one p then end.Bound one false else end.Bound p m

-- on a link with a rate a value above 1 counts as 1
unfoldable pub capped_hull : Rational → Interval → Interval
capped_hull rate piece =
    if has_rate rate
    then record { low = capped_low piece.low; high = capped_high piece.high }
    else piece

-- ---- actions

-- what the controller of a rule with these conditions can be, and its set point; a rule without a
-- condition has none
abbrev pub last_left : Rules → Cell → Option Condition → Reach
last_left x cell None = Missing
last_left x cell (Some c) = left_reach x.names (start_of x) cell c.left

abbrev pub last_right : Rules → Cell → Option Condition → Reach
last_right x cell None = Missing
last_right x cell (Some c) = right_reach (start_of x) cell c.right

unfoldable pub controller_reach : Rules → Cell → List Condition → Reach
controller_reach x cell conditions = last_left x cell (last_of conditions)

unfoldable pub set_point_reach : Rules → Cell → List Condition → Reach
set_point_reach x cell conditions = last_right x cell (last_of conditions)

-- the hull of a curve over its controller's hull
abbrev pub curve_over : Option CurveTable → Reach → Interval
curve_over None controller = from_zero
curve_over (Some curve) Missing = from_zero
curve_over (Some curve) (Within sure over) = curve_hull curve.points over

-- the hull of a series over the moments of a box
abbrev pub series_over : Option SeriesTable → ℤ → Option (ℤ × ℤ) → Interval
series_over None start moments = from_zero
series_over (Some series) start None = from_zero
series_over (Some series) start (Some span) = series_hull series start span.0 span.1

-- the hull of an action, before the link's rate is asked: a number is a point, and a PID is from 0
-- to 1 unless the link is a pump
unfoldable pub what_hull : Rules → TableSet → Cell → List Condition → ℕ → What → Interval
what_hull x tables cell conditions link (Constant q) = point_of q
what_hull x tables cell conditions link (Curve curve) =
    curve_over (curve_at tables curve.index) (controller_reach x cell conditions)
what_hull x tables cell conditions link (Series series) =
    series_over (series_at tables series.index) (start_of x) cell.moments
what_hull x tables cell conditions link (Pid set number) =
    if is_pump x link then from_zero else closed zero one

-- the hull of an action on a link
unfoldable pub worth_hull : Rules → TableSet → Cell → List Condition → ℕ → What → Interval
worth_hull x tables cell conditions link what =
    capped_hull (rate_of x link) (what_hull x tables cell conditions link what)

-- whether an interval with members lies from lo to hi
unfoldable pub is_part_of : Interval → Rational → Rational → Bool
is_part_of piece lo hi =
    not (begins_earlier piece.low (closed lo hi).low)
    && not (ends_earlier (closed lo hi).high piece.high)

-- whether a side is surely missing
abbrev pub is_missing : Reach → Bool
is_missing Missing = true
is_missing (Within sure piece) = false

-- whether an action surely orders the old target: it is a curve or a PID without a controller, or a
-- PID without a set point
unfoldable pub keeps_target : Rules → Cell → List Condition → What → Bool
keeps_target x cell conditions (Constant q) = false
keeps_target x cell conditions (Series series) = false
keeps_target x cell conditions (Curve curve) = is_missing (controller_reach x cell conditions)
keeps_target x cell conditions (Pid set number) =
    is_missing (controller_reach x cell conditions)
    || is_missing (set_point_reach x cell conditions)

-- whether an old target from lo to hi is ordered as such a number: on a link with a rate at most 1
-- is ordered
unfoldable pub can_keep : Rational → Rational → Bool
can_keep rate lo = not (has_rate rate) || not (less one lo)

-- whether an action of a rule with these conditions orders a number from lo to hi on a link whose
-- target is such a number
unfoldable pub stays_within : Rules → TableSet → Cell → List Condition → ℕ → Rational → Rational
    → What → Bool
stays_within x tables cell conditions link lo hi what =
    is_part_of (worth_hull x tables cell conditions link what) lo hi
    || (can_keep (rate_of x link) lo && keeps_target x cell conditions what)
