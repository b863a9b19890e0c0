use Rattle.std.proofs.Common.{◌<◌, length, subst, arith}
use Rattle.rule_types.specs.Fitting.{PidFits}
use Rattle.rule_meaning.specs.Memories.{memory_of}
use Rattle.action_values.proofs.PidSteps.{quiet_over, quiet_memory, pid_over, pid_memory}
use Rattle.action_values.proofs.pids.advance_action.Goals as goal

pub returns-in-Constant : goal.returns-in-Constant
returns-in-Constant c = record {
  over = λ later. quiet_over c.args.rules.now c.args.state.now (memory_of c.args.before.now) c.args.at.now c.args.action.now _ later c.requires.is c.in-Constant.is tt;
  memories = λ number. quiet_memory c.args.rules.now c.args.state.now (memory_of c.args.before.now) c.args.at.now c.args.action.now _ number _ _ c.requires.is c.in-Constant.is tt;
}

pub returns-in-Curve : goal.returns-in-Curve
returns-in-Curve c = record {
  over = λ later. quiet_over c.args.rules.now c.args.state.now (memory_of c.args.before.now) c.args.at.now c.args.action.now _ later c.requires.is c.in-Curve.is tt;
  memories = λ number. quiet_memory c.args.rules.now c.args.state.now (memory_of c.args.before.now) c.args.at.now c.args.action.now _ number _ _ c.requires.is c.in-Curve.is tt;
}

pub returns-in-Series : goal.returns-in-Series
returns-in-Series c = record {
  over = λ later. quiet_over c.args.rules.now c.args.state.now (memory_of c.args.before.now) c.args.at.now c.args.action.now _ later c.requires.is c.in-Series.is tt;
  memories = λ number. quiet_memory c.args.rules.now c.args.state.now (memory_of c.args.before.now) c.args.at.now c.args.action.now _ number _ _ c.requires.is c.in-Series.is tt;
}

pub returns-in-Pid-clause-over : goal.returns-in-Pid-clause-over
returns-in-Pid-clause-over c = λ later.
    pid_over c.args.rules.now c.args.state.now (memory_of c.args.before.now) c.args.at.now c.args.action.now c.in-Pid.set c.in-Pid.number later c.advance_pid.result c.requires.is c.in-Pid.is (c.advance_pid.ensures.over later)

pub returns-in-Pid-clause-memories : goal.returns-in-Pid-clause-memories
returns-in-Pid-clause-memories c =
    let within : c.in-Pid.number < length c.args.before.now = subst (λ w. PidFits (length c.args.before.now) w) c.in-Pid.is c.requires.counted in
    λ number.
    pid_memory c.args.rules.now c.args.state.now c.args.before.now c.args.after.now c.args.at.now c.args.action.now c.in-Pid.set c.in-Pid.number number c.advance_pid.new.after
    c.requires.is c.in-Pid.is (omega (arith, within, c.requires.each)) c.advance_pid.ensures.memories
