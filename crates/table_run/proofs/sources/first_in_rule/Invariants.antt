use Rattle.table_run.specs.internal.Sources.{NoLeftBefore}
use Rattle.table_run.proofs.sources.first_in_rule.Given as goal

abbrev pub invariant-loop-number : goal.invariant-loop-number
invariant-loop-number l = NoLeftBefore l.row.conditions l.number l.side
