use Rattle.std.proofs.Common.{rules}
use Rattle.rule_meaning.specs.Pid.{pid_step}
use Rattle.pid_action.proofs.Steps.{value_in_bounds}
use Rattle.pid_action.proofs.pid_step.Goals as goal

pub returns-clause-bounds : goal.returns-clause-bounds
unfolding pid_step
returns-clause-bounds c =
    value_in_bounds c.args.set c.args.set_point c.args.x c.args.old c.args.minutes c.args.pump c.args.memory.now
    c.bounded.result (search rules)
