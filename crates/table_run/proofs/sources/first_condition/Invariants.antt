use Rattle.table_run.specs.internal.Sources.{NoLeftIn}
use Rattle.table_run.proofs.sources.first_condition.Given as goal

abbrev pub invariant-loop-rule : goal.invariant-loop-rule
invariant-loop-rule l = NoLeftIn l.rules.rules l.rule l.side
