use Rattle.std.proofs.Common.{◌≡◌, ◌+◌, ◌-◌, ◌<◌, ◌∙◌, ap, drop, length, arith}
use Rattle.rule_meaning.specs.History.{memory_listed}
use Rattle.rule_meaning.specs.Memories.{memory_of}
use Rattle.rule_meaning.specs.Reading.{pids_stop}
use Rattle.action_values.proofs.PidSteps.{stop_step, memory_step, stop_end, memory_end}
use Rattle.action_values.proofs.pids.advance_all.Goals as goal

pub loop-i-init : goal.loop-i-init
loop-i-init c = record {
  stop = stop_end c.args.rules.now c.args.state.now (memory_of c.args.before.now) c.args.pairs.now (length c.args.pairs.now) (omega arith);
  memories = λ number. memory_end c.args.rules.now c.args.state.now c.args.before.now c.args.after.now c.args.pairs.now (length c.args.pairs.now) number (omega arith) c.requires.same;
}

pub loop-i-preserved : goal.loop-i-preserved
loop-i-preserved c =
    let step : c.loop-i.i ≡ (c.loop-i.i - 1) + 1 = omega arith in
    let within : c.loop-i.i - 1 < length c.args.pairs.now = omega arith in
    record {
      stop =
          stop_step c.args.rules.now c.args.state.now (memory_of c.args.before.now) c.args.pairs.now (c.loop-i.i - 1) _ c.advance-over.result c.loop-i.stop c.stop_at-stop.result within
          c.advance-over.ensures.over
          (c.loop-i.invariant.stop ∙ ap (λ n. pids_stop c.args.rules.now c.args.state.now (memory_of c.args.before.now) (drop n c.args.pairs.now)) step)
          c.stop_at-stop.ensures.value;
      memories = λ number.
          memory_step c.args.rules.now c.args.state.now (memory_of c.args.before.now) c.args.pairs.now (c.loop-i.i - 1) _ number (memory_of c.loop-i.after number) (memory_of c.advance-over.new.after number) within
          (c.advance-over.ensures.memories number)
          (c.loop-i.invariant.memories number ∙ ap (λ n. memory_listed c.args.rules.now c.args.state.now (memory_of c.args.before.now) number (drop n c.args.pairs.now)) step);
    }
