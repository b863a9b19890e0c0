-- What an action is worth at a state.
use Rattle.std.specs.Prelude.{ℕ, Bool, false, ◌==◌, if◌then◌else◌, Option, Some, None, Result, Ok}
use Rattle.std.specs.Prelude.{Err}
use Rattle.std.specs.Prelude.{List, [], ◌∷◌, pos, option_and_then}
use Rattle.exact_fraction.specs.Number.{Rational, whole, zero, one}
use Rattle.exact_fraction.specs.Operations.{quotient_of}
use Rattle.exact_fraction.specs.Order.{lesser_of}
use Rattle.exact_fraction.specs.declared.error.Overflow.{Overflow}
use Rattle.rule_types.specs.declared.action.Action.{Action}
use Rattle.rule_types.specs.declared.action.PidMemory.{PidMemory}
use Rattle.rule_types.specs.declared.action.PidSet.{PidSet}
use Rattle.rule_types.specs.declared.action.What.{What}
use Rattle.rule_types.specs.declared.action.What.TheVariants.{Constant, Curve, Series, Pid}
use Rattle.rule_types.specs.declared.condition.Condition.{Condition}
use Rattle.rule_types.specs.declared.rules.Rules.{Rules}
use Rattle.rule_types.specs.declared.state.LinkState.{LinkState}
use Rattle.rule_types.specs.declared.state.State.{State}
use Rattle.rule_types.specs.Tables.{TableSet, CurveTable, SeriesTable, curve_at, series_at}
use Rattle.rule_types.specs.WellFormed.{has_rate}
use Rattle.rule_meaning.specs.Condition.{left_value, right_value}
use Rattle.rule_meaning.specs.StraightLines.{line_value, series_x}
use Rattle.rule_meaning.specs.Pid.{Stepped, pid_step}
use Rattle.rule_meaning.specs.State.{beside, link_state}

-- the last of some conditions, if there is one
abbrev pub last_of : List Condition → Option Condition
last_of [] = None
last_of (c ∷ []) = Some c
last_of (c ∷ next ∷ more) = last_of (next ∷ more)

-- the controller and the set point of a rule: the left and the right side of its last condition
-- (SWMM 5.2 manual, modulated controls)
unfoldable pub controller_of : Rules → State → List Condition → Option Rational
controller_of x s conditions = option_and_then (λ c. left_value x s c.left) (last_of conditions)

unfoldable pub set_point_of : Rules → State → List Condition → Option Rational
set_point_of x s conditions = option_and_then (λ c. right_value x s c.right) (last_of conditions)

-- the target of a link at a state
abbrev pub target_or_zero : Option LinkState → Rational
target_or_zero None = zero
target_or_zero (Some link) = link.target

unfoldable pub old_target : Rules → State → ℕ → Rational
old_target x s link = target_or_zero (link_state x s link)

-- the hours that a link takes to open or close fully (SWMM 5.2 manual, [ORIFICES])
abbrev pub rate_or_zero : Option Rational → Rational
rate_or_zero None = zero
rate_or_zero (Some rate) = rate

unfoldable pub rate_of : Rules → ℕ → Rational
rate_of x link = rate_or_zero (beside (λ other. link == other) x.tracked x.rates)

-- whether a link is a pump
abbrev pub true_or_false : Option Bool → Bool
true_or_false None = false
true_or_false (Some pump) = pump

unfoldable pub is_pump : Rules → ℕ → Bool
is_pump x link = true_or_false (beside (λ other. link == other) x.controlled x.pumps)

-- a step of so many seconds in minutes
unfoldable pub minutes_of : Rational → Rational
minutes_of seconds = quotient_of seconds (whole (pos 60))

-- the value of a curve at its controller; where that is missing, the old target (SWMM 5.2 manual,
-- modulated controls)
abbrev pub curve_worth : Option CurveTable → Option Rational → Rational → Result Rational Overflow
curve_worth None controller old = Ok old
curve_worth (Some curve) None old = Ok old
curve_worth (Some curve) (Some x) old = line_value curve.points x

-- the value of a series at the moment (SWMM 5.2 manual, modulated controls)
abbrev pub series_worth : Option SeriesTable → State → Rational → Result Rational Overflow
series_worth None s old = Ok old
series_worth (Some series) s old = line_value series.points (series_x series s.start s.moment)

-- what a PID action gives; where its controller or its set point is missing, the old target and the
-- memory as it was (SWMM 5.2 manual, modulated controls)
abbrev pub pid_worth : PidSet → Option Rational → Option Rational → Rational → Rational → Bool
    → PidMemory → Result Stepped Overflow
pid_worth set (Some x) (Some set_point) old seconds pump memory =
    pid_step set set_point x old (minutes_of seconds) pump memory
pid_worth set (Some x) None old seconds pump memory = Ok (record { value = old; memory = memory })
pid_worth set None set_point old seconds pump memory = Ok (record { value = old; memory = memory })

unfoldable pub rule_pid : Rules → State → (ℕ → PidMemory) → List Condition → ℕ → PidSet → ℕ
    → Result Stepped Overflow
rule_pid x s memory conditions link set number =
    pid_worth set (controller_of x s conditions) (set_point_of x s conditions)
    (old_target x s link) s.step (is_pump x link) (memory number)

abbrev pub value_stepped : Result Stepped Overflow → Result Rational Overflow
value_stepped (Ok stepped) = Ok stepped.value
value_stepped (Err why) = Err why

-- the value of an action of a rule with these conditions, before the link's rate is asked
unfoldable pub what_worth : Rules → TableSet → State → (ℕ → PidMemory) → List Condition → ℕ → What
    → Result Rational Overflow
what_worth x tables s memory conditions link (Constant q) = Ok q
what_worth x tables s memory conditions link (Curve curve) =
    curve_worth (curve_at tables curve.index) (controller_of x s conditions) (old_target x s link)
what_worth x tables s memory conditions link (Series series) =
    series_worth (series_at tables series.index) s (old_target x s link)
what_worth x tables s memory conditions link (Pid set number) =
    value_stepped (rule_pid x s memory conditions link set number)

-- on a link with a rate a value above 1 counts as 1
abbrev pub capped : Rational → Result Rational Overflow → Result Rational Overflow
capped rate (Ok q) = Ok (if has_rate rate then lesser_of one q else q)
capped rate (Err why) = Err why

-- The value of an action: a constant, a curve at the controller, a series at the moment or a step
-- of a PID, where the PID actions have these memories (SWMM 5.2 manual, [CONTROLS] and modulated
-- controls).
unfoldable pub worth : Rules → TableSet → State → (ℕ → PidMemory) → List Condition → Action
    → Result Rational Overflow
worth x tables s memory conditions action =
    capped (rate_of x action.link) (what_worth x tables s memory conditions action.link action.what)
