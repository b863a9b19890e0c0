-- What keys, sides and formulas can be worth at the states of a box.
use Rattle.std.specs.Prelude.{◌≡◌, IsTrue, ℕ, Bool, true, false, not, ◌&&◌, if◌then◌else◌}
use Rattle.std.specs.Prelude.{Option, Some, None}
use Rattle.std.specs.Prelude.{List, [], ◌∷◌, slice_get, ℤ}
use Rattle.std.specs.Str.{bytes_eq}
use Rattle.exact_fraction.specs.Number.{Rational, zero}
use Rattle.exact_fraction.specs.Order.{same}
use Rattle.interval_sets.specs.declared.interval.Bound.{Bound}
use Rattle.interval_sets.specs.declared.interval.Bound.TheVariants as end
use Rattle.interval_sets.specs.declared.interval.Interval.{Interval}
use Rattle.interval_sets.specs.Intervals.{lies_in, point_of, whole_line}
use Rattle.rule_types.specs.declared.condition.Side.{Side}
use Rattle.rule_types.specs.declared.condition.Side.TheVariants as side
use Rattle.rule_types.specs.declared.condition.Right.{Right}
use Rattle.rule_types.specs.declared.condition.Right.TheVariants as right
use Rattle.rule_types.specs.declared.expr.Expr.{Expr}
use Rattle.rule_types.specs.declared.expr.Expr.TheOpen.{Expr-F}
use Rattle.rule_types.specs.declared.expr.Expr.TheFolds.{fold-Expr}
use Rattle.rule_types.specs.declared.key.Attr.{Attr}
use Rattle.rule_types.specs.declared.key.Attr.TheVariants.{Setting, Status, TimeOpen, TimeClosed}
use Rattle.rule_types.specs.declared.key.Key.{Key}
use Rattle.rule_types.specs.declared.key.Key.TheVariants.{Object, Clock}
use Rattle.rule_types.specs.declared.names.NameDef.{NameDef}
use Rattle.rule_types.specs.declared.names.NameKind.{NameKind}
use Rattle.rule_types.specs.declared.names.NameKind.TheVariants.{Variable, Formula}
use Rattle.rule_types.specs.KeyOrder.{key_place}
use Rattle.verdict_meaning.specs.declared.cell.Cell.{Cell}
use Rattle.verdict_meaning.specs.declared.truth.Reach.{Reach}
use Rattle.verdict_meaning.specs.declared.truth.Reach.TheVariants.{Missing, Within}
use Rattle.verdict_meaning.specs.ClockHulls.{clock_hull}
use Rattle.verdict_meaning.specs.Hulls.{sum_hull, difference_hull, negation_hull, size_hull}
use Rattle.verdict_meaning.specs.Hulls.{sign_hull, step_hull, product_hull, quotient_hull}
use Rattle.verdict_meaning.specs.Hulls.{power_hull}

-- a value is as it can be: it is missing, or there is one that lies in the interval, which may be
-- missing only where that is not excluded
abbrev pub IsReached : Reach → Option Rational → Type 0
IsReached Missing found = found ≡ None
IsReached (Within sure piece) None = sure ≡ false
IsReached (Within sure piece) (Some q) = IsTrue (lies_in piece q)

-- ---- keys

-- whether two keys are the same
abbrev pub same_key : Key → Key → Bool
same_key a b = bytes_eq (key_place a) (key_place b)

-- the interval of a key in a list of keys with their intervals: that of the first entry with the
-- key
unfoldable pub piece_in : Key → List (Key × Interval) → Option Interval
piece_in key [] = None
piece_in key (entry ∷ more) =
    if same_key key entry.0 then Some entry.1 else piece_in key more

-- the interval of a key that each state has; nothing is known of a key without one
abbrev pub present : Option Interval → Reach
present None = Within false whole_line
present (Some piece) = Within true piece

-- whether an interval is the point 0
abbrev pub is_zero_end : Bound → Bool
is_zero_end end.NoBound = false
is_zero_end (end.Bound p true) = false
is_zero_end (end.Bound p false) = same p zero

abbrev pub is_point_zero : Interval → Bool
is_point_zero piece = is_zero_end piece.low && is_zero_end piece.high

-- a timer by the interval of its link's SETTING, from whether the timer is missing, and whether it
-- is present, at every setting there
abbrev pub timer_reach : Bool → Bool → Option Interval → Reach
timer_reach missing sure None = if missing then Missing else Within false whole_line
timer_reach missing sure (Some piece) = if missing then Missing else Within sure piece

-- TIMEOPEN is missing where the setting is 0, and TIMECLOSED where it is not
abbrev pub open_reach : Option Interval → Option Interval → Reach
open_reach None timer = timer_reach false false timer
open_reach (Some setting) timer =
    timer_reach (is_point_zero setting) (not (lies_in setting zero)) timer

abbrev pub closed_reach : Option Interval → Option Interval → Reach
closed_reach None timer = timer_reach false false timer
closed_reach (Some setting) timer =
    timer_reach (not (lies_in setting zero)) (is_point_zero setting) timer

-- one operand, and two
abbrev pub over : (Interval → Interval) → Reach → Reach
over hull Missing = Missing
over hull (Within sure piece) = Within sure (hull piece)

abbrev pub over_both : (Interval → Interval → Interval) → Reach → Reach → Reach
over_both hull Missing b = Missing
over_both hull (Within sure piece) Missing = Missing
over_both hull (Within sure piece) (Within certain other) =
    Within (sure && certain) (hull piece other)

-- what a key can be worth in a box, from a start: an input key and SETTING lie in their intervals,
-- STATUS is read off that of SETTING, and the clock off the moments
unfoldable pub key_reach : ℤ → Cell → Key → Reach
key_reach start cell (Object object Status) =
    over step_hull (present (piece_in (Object object Setting) cell.keys))
key_reach start cell (Object object TimeOpen) =
    open_reach (piece_in (Object object Setting) cell.keys)
    (piece_in (Object object TimeOpen) cell.keys)
key_reach start cell (Object object TimeClosed) =
    closed_reach (piece_in (Object object Setting) cell.keys)
    (piece_in (Object object TimeClosed) cell.keys)
key_reach start cell (Object object attribute) =
    present (piece_in (Object object attribute) cell.keys)
key_reach start cell (Clock attribute) = Within true (clock_hull attribute start cell.moments)

-- ---- formulas

-- one node of a formula, with what each operand can be in its place, where the variables can be
-- what `variable` says: it is missing where an operand is, and present where all are
unfoldable pub reach_step : (ℕ → Reach) → Expr-F Reach → Reach
reach_step variable (Expr-F.Number q) = Within true (point_of q)
reach_step variable (Expr-F.Name n) = variable n
reach_step variable (Expr-F.Neg a) = over negation_hull a
reach_step variable (Expr-F.Abs a) = over size_hull a
reach_step variable (Expr-F.Sgn a) = over sign_hull a
reach_step variable (Expr-F.Step a) = over step_hull a
reach_step variable (Expr-F.Add a b) = over_both sum_hull a b
reach_step variable (Expr-F.Sub a b) = over_both difference_hull a b
reach_step variable (Expr-F.Mul a b) = over_both product_hull a b
reach_step variable (Expr-F.Div a b) = over_both quotient_hull a b
reach_step variable (Expr-F.Pow a n) = over (λ piece. power_hull piece n) a

-- what the variable of a place can be: what its key can be
abbrev pub variable_kind_reach : ℤ → Cell → NameKind → Reach
variable_kind_reach start cell (Variable key) = key_reach start cell key
variable_kind_reach start cell (Formula formula) = Missing

unfoldable pub variable_reach : ℤ → Cell → Option NameDef → Reach
variable_reach start cell None = Missing
variable_reach start cell (Some named) = variable_kind_reach start cell named.stands_for

unfoldable pub formula_reach : List NameDef → ℤ → Cell → Expr → Reach
formula_reach names start cell =
    fold-Expr Reach (reach_step (λ n. variable_reach start cell (slice_get names n)))

-- ---- sides

-- what the thing that a name stands for can be
unfoldable pub kind_reach : List NameDef → ℤ → Cell → NameKind → Reach
kind_reach names start cell (Variable key) = key_reach start cell key
kind_reach names start cell (Formula formula) = formula_reach names start cell formula

unfoldable pub named_reach : List NameDef → ℤ → Cell → Option NameDef → Reach
named_reach names start cell None = Missing
named_reach names start cell (Some named) = kind_reach names start cell named.stands_for

-- the left side of a condition, and the right side
unfoldable pub left_reach : List NameDef → ℤ → Cell → Side → Reach
left_reach names start cell (side.Key key) = key_reach start cell key
left_reach names start cell (side.Expr name) = named_reach names start cell (slice_get names name)

unfoldable pub right_reach : ℤ → Cell → Right → Reach
right_reach start cell (right.Key key) = key_reach start cell key
right_reach start cell (right.Value q) = Within true (point_of q)
