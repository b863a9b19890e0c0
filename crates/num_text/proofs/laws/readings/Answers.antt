-- What is read as a time, as hours and as a step.
use Rattle.num_text.proofs.PublicLaws.{readings-time, readings-hours, readings-step, readings-routing_step}
use Rattle.num_text.proofs.laws.readings.Goals as goal

pub returns-clause-time : goal.returns-clause-time
returns-clause-time c = readings-time

pub returns-clause-hours : goal.returns-clause-hours
returns-clause-hours c = readings-hours

pub returns-clause-step : goal.returns-clause-step
returns-clause-step c = readings-step

pub returns-clause-routing_step : goal.returns-clause-routing_step
returns-clause-routing_step c = readings-routing_step
