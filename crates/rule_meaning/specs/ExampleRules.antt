-- Rules that examples speak of, and their states.
use Rattle.std.specs.Prelude.{ℕ, Option, Some, None, List, [], ◌∷◌, pos, ◌+ℤ◌}
use Rattle.exact_fraction.specs.Number.{Rational, zero, one}
use Rattle.exact_fraction.specs.declared.relation.Relation.TheVariants.{Ne, Gt, Ge}
use Rattle.rule_types.specs.declared.key.Attr.TheVariants.{Flow}
use Rattle.rule_types.specs.declared.condition.Condition.{Condition}
use Rattle.rule_types.specs.declared.rule.Rule.{Rule}
use Rattle.rule_types.specs.declared.rules.Rules.{Rules}
use Rattle.rule_types.specs.declared.state.State.{State}
use Rattle.rule_meaning.specs.Reading.{Choice}
use Rattle.rule_types.specs.declared.row.Row.{Row}
use Rattle.rule_meaning.specs.Examples.{number, decimal, depth, link_key, and_if, or_if, or_if_name}
use Rattle.rule_meaning.specs.Examples.{set_to, by_curve, by_series, pid_numbers_of, by_pid}
use Rattle.rule_meaning.specs.Examples.{rule_of, rules_of, plain_rules, midnight, state_of}
use Rattle.rule_meaning.specs.Examples.{first_action, quotient_names}

-- two rules on link 0 whose premises hold where depth 0 is above 0, of these priorities: the first
-- sets 0.2, the second 0.7
abbrev pub ranked : Option Rational → Option Rational → Rules
ranked first second =
    plain_rules (depth 0 ∷ [])
    (rule_of (and_if (depth 0) Gt zero ∷ []) (set_to 0 (decimal 1 5) ∷ []) [] first
    ∷ rule_of (and_if (depth 0) Gt zero ∷ []) (set_to 0 (decimal 7 10) ∷ []) [] second ∷ [])

-- one rule that sets link 0 to 0.2 and then to 0.7 where depth 0 is above 0
abbrev pub twice_set_rules : Rules
twice_set_rules =
    plain_rules (depth 0 ∷ [])
    (rule_of (and_if (depth 0) Gt zero ∷ []) (set_to 0 (decimal 1 5) ∷ set_to 0 (decimal 7 10) ∷ [])
    [] None ∷ [])

-- a rule that sets link 0, of this rate, to a number where depth 0 is at least 0
abbrev pub setting_rules : Rational → Rational → Rules
setting_rules rate q =
    rules_of [] (depth 0 ∷ []) rate 300 0
    (rule_of (and_if (depth 0) Ge zero ∷ []) (set_to 0 q ∷ []) [] None ∷ [])

-- three depths, and their states
abbrev pub three_depths : Rules
three_depths = plain_rules (depth 0 ∷ depth 1 ∷ depth 2 ∷ []) []

abbrev pub depths_at : ℕ → ℕ → ℕ → State
depths_at first second third =
    state_of 0 60 (Some (number first) ∷ Some (number second) ∷ Some (number third) ∷ []) one one

-- rules that ask whether depths are above 1: the first or the second, and the third; the first, and
-- the second or the third
abbrev pub either_and_last : Rule
either_and_last =
    rule_of (and_if (depth 0) Gt one ∷ or_if (depth 1) Gt one ∷ and_if (depth 2) Gt one ∷ [])
    [] [] None

abbrev pub first_and_either : Rule
first_and_either =
    rule_of (and_if (depth 0) Gt one ∷ and_if (depth 1) Gt one ∷ or_if (depth 2) Gt one ∷ [])
    [] [] None

-- four conditions: one or another, and a third or a fourth
abbrev pub four_conditions : List Condition
four_conditions =
    and_if (depth 0) Gt one ∷ or_if (depth 1) Gt one
    ∷ and_if (depth 2) Gt one ∷ or_if (depth 3) Gt one ∷ []

-- a PID of gain 0.1 where the flow of link 1 is not 1.6, and its states at these flows
abbrev pub stuck_rules : Rules
stuck_rules =
    plain_rules (link_key Flow 1 ∷ [])
    (rule_of (and_if (link_key Flow 1) Ne (decimal 8 5) ∷ [])
    (by_pid 0 (pid_numbers_of (decimal 1 10) zero zero) ∷ []) [] None ∷ [])

abbrev pub flow_state : ℕ → ℕ → Rational → Rational → State
flow_state seconds step flow setting = state_of seconds step (Some flow ∷ []) setting setting

-- a rule of priority 2 that sets 0.5 where the flow of link 1 is above 5, and a PID without a
-- priority where depth 0 is not 2
abbrev pub beaten_pid_rules : Rules
beaten_pid_rules =
    plain_rules (depth 0 ∷ link_key Flow 1 ∷ [])
    (rule_of (and_if (link_key Flow 1) Gt (number 5) ∷ [])
    (set_to 0 (decimal 1 2) ∷ []) [] (Some (number 2))
    ∷ rule_of (and_if (depth 0) Ne (number 2) ∷ [])
    (by_pid 0 (pid_numbers_of one zero zero) ∷ []) [] None ∷ [])

abbrev pub depth_flow_state : ℕ → Rational → Rational → Rational → State
depth_flow_state seconds level flow setting =
    state_of seconds 300 (Some level ∷ Some flow ∷ []) setting setting

-- a PID of gain 0.1 and integral time 10 where the flow of link 1 is not 2, at a RULE_STEP of 10
-- minutes
abbrev pub slow_rules : Rules
slow_rules =
    rules_of [] (link_key Flow 1 ∷ []) zero 60 600
    (rule_of (and_if (link_key Flow 1) Ne (number 2) ∷ [])
    (by_pid 0 (pid_numbers_of (decimal 1 10) (number 10) zero) ∷ []) [] None ∷ [])

-- an orifice of this rate, at a RULE_STEP in seconds: closed where depth 0 is above 1, else open
abbrev pub orifice_rules : Rational → ℕ → Rules
orifice_rules rate rule_step =
    rules_of [] (depth 0 ∷ []) rate 300 rule_step
    (rule_of (and_if (depth 0) Gt one ∷ []) (set_to 0 zero ∷ []) (set_to 0 one ∷ []) None ∷ [])

-- one that takes half an hour, and one that moves at once, with a start at midnight
abbrev pub moving_rules : Rules
moving_rules = orifice_rules (decimal 1 2) 0

abbrev pub started_rules : Rules
started_rules = record (orifice_rules zero 0) { start = Some midnight }

-- a row at so many seconds after midnight with this depth, and its state: the step in seconds, and
-- link 0 at a setting and a target with its timer
abbrev pub row_at : ℕ → ℕ → Row
row_at seconds level =
    record { moment = midnight +ℤ pos seconds; inputs = Some (number level) ∷ [] }

abbrev pub row_state : ℕ → ℕ → ℕ → Rational → Rational → Rational → State
row_state seconds level step setting target timer =
    record {
      moment = midnight +ℤ pos seconds;
      start = midnight;
      step = number step;
      inputs = Some (number level) ∷ [];
      links = record { setting = setting; target = target; timer = timer } ∷ [];
    }

-- a choice of the first action of a rule, whatever is settled
abbrev pub always_first : ℕ → Choice
always_first rule = λ s link. Some (first_action rule)

abbrev pub moving_state : ℕ → ℕ → Rational → Rational → State
moving_state seconds level setting target =
    state_of seconds 300 (Some (number level) ∷ []) setting target

-- a curve where depth 0 is above 1 or depth 1 is at least 0; a series where depth 0 is at least 0
abbrev pub curve_rules : Rules
curve_rules =
    plain_rules (depth 0 ∷ depth 1 ∷ [])
    (rule_of (and_if (depth 0) Gt one ∷ or_if (depth 1) Ge zero ∷ [])
    (by_curve 0 ∷ []) [] None ∷ [])

abbrev pub series_rules : Rules
series_rules =
    plain_rules (depth 0 ∷ [])
    (rule_of (and_if (depth 0) Ge zero ∷ []) (by_series 0 ∷ []) [] None ∷ [])

-- a rule that holds where depth 0 is above 0, or the quotient of depth 0 and depth 1 is
abbrev pub quotient_rules : Rules
quotient_rules =
    rules_of quotient_names (depth 0 ∷ depth 1 ∷ []) zero 300 0
    (rule_of (and_if (depth 0) Gt zero ∷ or_if_name 2 Gt zero ∷ [])
    (set_to 0 zero ∷ []) [] None ∷ [])

abbrev pub depths_state : ℕ → Option Rational → Option Rational → State
depths_state seconds first second = state_of seconds 300 (first ∷ second ∷ []) one (decimal 2 5)
