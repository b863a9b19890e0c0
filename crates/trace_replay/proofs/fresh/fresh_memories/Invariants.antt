use Rattle.std.proofs.Common.{◌≡◌, ◌++◌, drop, replicate}
use Rattle.rule_types.specs.Reading.{pid_count}
use Rattle.rule_meaning.specs.Pid.{fresh}
use Rattle.trace_replay.proofs.fresh.fresh_memories.Given as goal

abbrev pub invariant-loop-rule : goal.invariant-loop-rule
invariant-loop-rule l =
    l.memories.items ++ replicate (pid_count (drop l.rule-index l.rules)) fresh ≡ replicate (pid_count l.fn.rules) fresh
