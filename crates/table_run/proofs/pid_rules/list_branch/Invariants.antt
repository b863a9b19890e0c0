use Rattle.std.proofs.Common.{◌≡◌, ◌++◌, drop}
use Rattle.std.specs.Vec.{vec_capacity}
use Rattle.rule_types.specs.Reading.{branch_actions}
use Rattle.table_run.specs.internal.PidRules.{pids_from}
use Rattle.table_run.proofs.pid_rules.list_branch.Given as goal

abbrev pub invariant-loop-action : goal.invariant-loop-action
invariant-loop-action l = record {
  pairs : l.pairs.items ++ pids_from l.rule l.branch l.action (drop l.action (branch_actions l.row l.branch))
      ≡ l.fn.pairs.items ++ pids_from l.rule l.branch 0 (branch_actions l.row l.branch);
  capacity : vec_capacity l.pairs ≡ vec_capacity l.fn.pairs;
}
