use Rattle.std.proofs.Common.{◌≡◌, ◌++◌, take}
use Rattle.std.specs.List.{flat_map}
use Rattle.table_plan.specs.PlanRows.{part_columns}
use Rattle.table_plan.proofs.table_reads.push_clause_columns.Given as goal

abbrev pub invariant-loop-part : goal.invariant-loop-part
invariant-loop-part l =
    l.columns.items ≡ l.fn.columns.items ++ flat_map part_columns (take l.part-index l.part-items)
