use Rattle.std.proofs.Common.{◌≡◌, ◌++◌, drop, replicate}
use Rattle.rule_meaning.specs.Pid.{fresh}
use Rattle.trace_replay.specs.internal.Rows.{pids_among}
use Rattle.trace_replay.proofs.fresh.add_fresh.Given as goal

abbrev pub invariant-loop-action : goal.invariant-loop-action
invariant-loop-action l =
    l.memories.items ++ replicate (pids_among (drop l.action-index l.actions)) fresh
    ≡ l.fn.memories.items ++ replicate (pids_among l.fn.actions) fresh
