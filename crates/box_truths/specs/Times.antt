-- When a simulation begins, and its step.
use Rattle.std.specs.Prelude.{◌≡◌}
use Rattle.rule_types.specs.declared.rules.Rules.{Rules}
use Rattle.rule_meaning.specs.Condition.{hours_of_step}
use Rattle.clock_values.specs.Steps.{IsStepInHours}
use Rattle.verdict_meaning.specs.Premises.{start_of}
use Rattle.box_truths.specs.declared.times.Times.{Times}

-- so many hours are the step, which a state can have
pub record AreStepTimes (times : Times) : Type 0 where
  pub hours : times.hours ≡ hours_of_step times.step
  pub in_hours : IsStepInHours times.hours

-- these are the start and the routing step of rules
pub record AreTimesOf (x : Rules) (times : Times) : Type 0 where
  pub start : times.start ≡ start_of x
  pub step : times.step ≡ x.routing_step
  pub step_times : AreStepTimes times
