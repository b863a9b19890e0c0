use Rattle.std.proofs.Common.{◌≡◌, ◌++◌, drop}
use Rattle.table_run.specs.internal.PidRules.{pid_rules}
use Rattle.table_run.proofs.pid_rules.pid_rules.Given as goal

abbrev pub invariant-loop-number : goal.invariant-loop-number
invariant-loop-number l =
    l.numbers.items ++ pid_rules l.number (drop l.number l.rules) ≡ pid_rules 0 l.rules
