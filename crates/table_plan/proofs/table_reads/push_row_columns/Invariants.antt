use Rattle.std.proofs.Common.{◌≡◌, ◌++◌, take}
use Rattle.std.specs.List.{flat_map}
use Rattle.table_plan.specs.PlanRows.{clause_columns}
use Rattle.table_plan.proofs.table_reads.push_row_columns.Given as goal

abbrev pub invariant-loop-clause : goal.invariant-loop-clause
invariant-loop-clause l =
    l.columns.items ≡ l.fn.columns.items ++ flat_map clause_columns (take l.clause-index l.clause-items)
