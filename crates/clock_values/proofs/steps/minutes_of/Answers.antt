use Rattle.std.proofs.Common.{arith}
use Rattle.clock_values.proofs.Made.{step_above}
use Rattle.clock_values.proofs.steps.minutes_of.Goals as goal

pub returns-clause-positive : goal.returns-clause-positive
returns-clause-positive c = rw c.divided.ensures.value (step_above c.args.seconds.now 60 c.requires.step (omega arith))
