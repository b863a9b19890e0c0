use Rattle.std.proofs.Common.{◌++◌, ◌∙◌, ap, replicate, arith}
use Rattle.rule_types.specs.Reading.{pid_count}
use Rattle.rule_meaning.specs.Pid.{fresh}
use Rattle.trace_replay.specs.internal.Rows.{pids_among}
use Rattle.trace_replay.proofs.FirstSteps.{rule_step, rules_end}
use Rattle.trace_replay.proofs.fresh.fresh_memories.Goals as goal

pub loop-rule-preserved : goal.loop-rule-preserved
loop-rule-preserved c =
    rule_step c.args.rules.now c.loop-rule.memories.items c.add_fresh.new.memories.items c.add_fresh-in-loop-rule.new.memories.items
    (replicate (pid_count c.args.rules.now) fresh) c.loop-rule.rule-index c.rule-item.result c.loop-rule-test.true c.rule-item.is
    (c.in_ok-add_fresh.ensures ∙ ap (λ l. c.loop-rule.memories.items ++ replicate (pids_among l) fresh) c.as_slice.ensures.value)
    (c.in_ok-add_fresh-2.ensures ∙ ap (λ l. c.add_fresh.new.memories.items ++ replicate (pids_among l) fresh) c.as_slice-in-loop-rule.ensures.value)
    c.loop-rule.invariant

pub returns : goal.returns
returns c = record { fresh = rules_end c.args.rules.now c.loop-rule.memories.items (replicate (pid_count c.args.rules.now) fresh) c.loop-rule.rule-index (omega arith) c.loop-rule.invariant }
