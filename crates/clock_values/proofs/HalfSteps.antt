-- What well formed rules say of steps and of half-step conditions.
use Rattle.std.proofs.Common.{arith, ◌≡◌, inl, refl, subst, Some, List}
use Rattle.std.specs.Prelude.{IsTrue}
use Rattle.exact_fraction.specs.Number.{Rational, zero}
use Rattle.exact_fraction.specs.Order.{◌<ℚ◌}
use Rattle.rule_types.specs.declared.condition.Condition.{Condition}
use Rattle.rule_types.specs.declared.condition.Right.{Right}
use Rattle.rule_types.specs.declared.condition.Right.TheVariants as right
use Rattle.rule_types.specs.declared.names.NameDef.{NameDef}
use Rattle.rule_types.specs.declared.rules.Rules.{Rules}
use Rattle.rule_types.specs.declared.state.State.{State}
use Rattle.rule_types.specs.Fitting.{IsStep}
use Rattle.rule_types.specs.WellFormed.{ConditionFits, IsRoutingStep, IsTimeRight, IsTimeValue, WellFormed}
use Rattle.rule_types.proofs.PublicLaws.{opened-times}
use Rattle.rule_meaning.specs.Condition.{hours_of_step, right_value}
use Rattle.rule_meaning.specs.Worth.{minutes_of}
use Rattle.clock_values.specs.Steps.{IsStepInHours}
use Rattle.clock_values.proofs.Made.{step_above}

-- ---- steps
pub in_hours : (seconds : Rational) → IsStep seconds → IsStepInHours (hours_of_step seconds)
in_hours seconds h = record { seconds = seconds; step = h; hours_are = refl }

pub minutes_above : (seconds : Rational) → IsStep seconds → zero <ℚ minutes_of seconds
unfolding minutes_of
minutes_above seconds h = step_above seconds 60 h (omega arith)

pub routing_is_step : (seconds : Rational) → IsRoutingStep seconds → IsStep seconds
unfolding IsStep
routing_is_step seconds h = inl h

pub step_of_rules : (x : Rules) → WellFormed x → IsStep x.routing_step
step_of_rules x w = routing_is_step x.routing_step (opened-times x w.bounds).routing_step

-- ---- the right side of a half-step condition
pub half_step_number : (names : List NameDef) (c : Condition) (q : Rational) → ConditionFits names c
    → c.right ≡ right.Value q → IsTrue c.half_step → IsTimeValue q
half_step_number names c q fits e half = subst IsTimeRight e (fits.half_step half).value

half_step_right : (x : Rules) (s : State) (other : Right) (q : Rational) → IsTimeRight other
    → right_value x s other ≡ Some q → IsTimeValue q
unfolding right_value
half_step_right x s (right.Key key) q h e = absurd h
half_step_right x s (right.Value p) q h e = subst IsTimeValue (cc) h

pub half_step_value : (names : List NameDef) (x : Rules) (s : State) (c : Condition) (q : Rational)
    → ConditionFits names c → right_value x s c.right ≡ Some q → IsTrue c.half_step → IsTimeValue q
half_step_value names x s c q fits e half = half_step_right x s c.right q (fits.half_step half).value e
