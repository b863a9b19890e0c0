-- Rules, ranges and boxes of further worked examples.
use Rattle.std.specs.Prelude.{ℕ, suc, Bool, true, false, Option, Some, None, List, [], ◌∷◌, ℤ, pos}
use Rattle.std.specs.Prelude.{◌+ℤ◌}
use Rattle.std.specs.Prelude.{zero as nothing}
use Rattle.exact_fraction.specs.Number.{Rational, zero, one}
use Rattle.exact_fraction.specs.Operations.{negation_of}
use Rattle.exact_fraction.specs.declared.relation.Relation.{Relation}
use Rattle.exact_fraction.specs.declared.relation.Relation.TheVariants.{Gt, Ge}
use Rattle.interval_sets.specs.declared.interval.Interval.{Interval}
use Rattle.rule_types.specs.declared.condition.Condition.{Condition}
use Rattle.rule_types.specs.declared.condition.Right.TheVariants as right
use Rattle.rule_types.specs.declared.condition.Side.TheVariants as side
use Rattle.rule_types.specs.declared.key.Attr.TheVariants.{TimeOpen, TimeClosed}
use Rattle.rule_types.specs.declared.key.ClockAttr.TheVariants.{ClockTime}
use Rattle.rule_types.specs.declared.key.Key.{Key}
use Rattle.rule_types.specs.declared.key.Key.TheVariants.{Clock}
use Rattle.rule_types.specs.declared.names.NameDef.{NameDef}
use Rattle.rule_types.specs.declared.names.NameKind.TheVariants.{Variable}
use Rattle.rule_types.specs.declared.rules.Rules.{Rules}
use Rattle.rule_types.specs.declared.state.State.{State}
use Rattle.rule_meaning.specs.Examples.{number, decimal, depth, link_key, and_if, set_to, rule_of}
use Rattle.rule_meaning.specs.Examples.{midnight, by_curve, half_step_if}
use Rattle.rule_meaning.specs.ExampleFormulas.{against}
use Rattle.verdict_meaning.specs.declared.cell.Cell.{Cell}
use Rattle.verdict_meaning.specs.declared.ranges.Ranges.{Ranges}
use Rattle.verdict_meaning.specs.Examples.{flow, gate_rules, prepared, ranges_of}
use Rattle.verdict_meaning.specs.Hulls.{closed}
use Rattle.verdict_meaning.specs.Questions.{setting_key}

-- the greatest number
abbrev pub greatest : Rational
greatest = number 9223372036854775807

-- a box of these keys, without moments
abbrev pub box_of : List (Key × Interval) → Cell
box_of keys = record { keys = keys; moments = None }

-- depths in an interval, flow from 101 to 300
abbrev pub gate_box : Interval → Cell
gate_box depths = box_of ((depth 0, depths) ∷ (flow, closed (number 101) (number 300)) ∷ [])

-- the timers of link 0
abbrev pub open_timer : Key
open_timer = link_key TimeOpen 0

abbrev pub closed_timer : Key
closed_timer = link_key TimeClosed 0

-- link 0 at a range of settings, with both timers from 0 to 10 hours
abbrev pub timer_box : Interval → Cell
timer_box settings =
    box_of
    ((setting_key 0, settings) ∷ (open_timer, closed zero (number 10))
    ∷ (closed_timer, closed zero (number 10)) ∷ [])

-- open for an hour: setting 0.5, else setting 5
abbrev pub timer_rules : Rules
timer_rules =
    prepared [] zero
    (rule_of (and_if open_timer Ge one ∷ []) (set_to 0 (decimal 1 2) ∷ [])
    (set_to 0 (number 5) ∷ []) None ∷ [])

abbrev pub timer_ranges : Ranges
timer_ranges =
    ranges_of
    ((setting_key 0, closed zero zero) ∷ (open_timer, closed zero (number 10)) ∷ [])

-- at every depth above -5 the curve from (0, 0) to (3, 1)
abbrev pub curve_rules : Rules
curve_rules =
    prepared (depth 0 ∷ []) zero
    (rule_of (and_if (depth 0) Ge (negation_of (number 5)) ∷ []) (by_curve 0 ∷ []) [] None ∷ [])

-- the depth of node 0 from 0 to a number
abbrev pub depth_ranges : Rational → Ranges
depth_ranges most = ranges_of ((depth 0, closed zero most) ∷ [])

-- above depth 1 setting 3, on a link with this rate
abbrev pub rated_rules : Rational → Rules
rated_rules rate =
    prepared (depth 0 ∷ []) rate
    (rule_of (and_if (depth 0) Gt one ∷ []) (set_to 0 (number 3) ∷ []) [] None ∷ [])

-- depth 5.5, and link 0 half open
abbrev pub half_open_state : State
half_open_state =
    record {
      moment = midnight;
      start = midnight;
      step = number 20;
      inputs = Some (decimal 11 2) ∷ [];
      links = record { setting = decimal 1 2; target = decimal 1 2; timer = zero } ∷ [];
    }

-- the depth of each of two nodes above that of the other
abbrev pub level_rules : Rules
level_rules =
    prepared (depth 0 ∷ depth 1 ∷ []) zero
    (rule_of (against (depth 0) Gt (depth 1) ∷ []) (set_to 0 one ∷ []) [] None
    ∷ rule_of (against (depth 1) Gt (depth 0) ∷ []) (set_to 0 zero ∷ []) [] None ∷ [])

abbrev pub level_ranges : Interval → Interval → Ranges
level_ranges first second = ranges_of ((depth 0, first) ∷ (depth 1, second) ∷ [])

-- open from 22:45:00 on, else closed
abbrev pub evening_rules : Rules
evening_rules =
    prepared [] zero
    (rule_of (and_if (Clock ClockTime) Ge (decimal 91 4) ∷ []) (set_to 0 one ∷ [])
    (set_to 0 zero ∷ []) None ∷ [])

-- the second of 22:44:59 and that of 22:45:00
abbrev pub before_evening : ℤ
before_evening = midnight +ℤ pos 81899

abbrev pub evening : ℤ
evening = midnight +ℤ pos 81900

abbrev pub evening_box : ℤ → ℤ → Cell
evening_box first last =
    record { keys = (setting_key 0, closed zero one) ∷ []; moments = Some (first, last) }

-- a rule that acts where link 0 has been open for an hour, as times are compared
abbrev pub timed_rules : Relation → Rules
timed_rules relation =
    prepared [] zero
    (rule_of (half_step_if open_timer relation one ∷ []) (set_to 0 one ∷ []) [] None ∷ [])

-- link 0 open for so many hours
abbrev pub open_box : Interval → Cell
open_box hours = box_of ((setting_key 0, closed one one) ∷ (open_timer, hours) ∷ [])

-- conditions on the depths of so many nodes, and their ranges
unfoldable pub depths_if : ℕ → List Condition
depths_if nothing = []
depths_if (suc more) = and_if (depth more) Ge zero ∷ depths_if more

unfoldable pub depth_keys : ℕ → List Key
depth_keys nothing = []
depth_keys (suc more) = depth more ∷ depth_keys more

unfoldable pub from_zero_to_ten : List Key → List (Key × Interval)
from_zero_to_ten [] = []
from_zero_to_ten (key ∷ more) = (key, closed zero (number 10)) ∷ from_zero_to_ten more

-- two rules that order different settings wherever the depths of thirteen nodes are at least 0
abbrev pub many_rules : Rules
many_rules =
    prepared (depth_keys 13) zero
    (rule_of (depths_if 13) (set_to 0 one ∷ []) [] None
    ∷ rule_of (depths_if 13) (set_to 0 zero ∷ []) [] None ∷ [])

abbrev pub many_ranges : Ranges
many_ranges = ranges_of (from_zero_to_ten (depth_keys 13))

-- the rules of the gate where link 0 is a pump
abbrev pub pump_rules : Rules
pump_rules = record gate_rules { pumps = true ∷ [] }

-- a variable that stands for the depth of node 0
abbrev pub depth_name : NameDef
depth_name = record { name = []; stands_for = Variable (depth 0) }
