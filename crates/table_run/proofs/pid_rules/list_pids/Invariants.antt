use Rattle.std.proofs.Common.{◌≡◌, ◌≤◌, ◌++◌, drop}
use Rattle.std.specs.Vec.{vec_capacity}
use Rattle.table_run.specs.internal.PidRules.{pids_of}
use Rattle.table_run.proofs.pid_rules.list_pids.Given as goal

abbrev pub invariant-loop-at : goal.invariant-loop-at
invariant-loop-at l = record {
  pairs : l.pairs.items ++ pids_of l.rules l.state (drop l.at l.numbers) ≡ pids_of l.rules l.state l.numbers;
  capacity : vec_capacity l.fn.pairs ≤ vec_capacity l.pairs;
}
