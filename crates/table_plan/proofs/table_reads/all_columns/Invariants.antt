use Rattle.std.proofs.Common.{◌≡◌, take}
use Rattle.std.specs.List.{flat_map}
use Rattle.table_plan.specs.PlanRows.{row_columns}
use Rattle.table_plan.proofs.table_reads.all_columns.Given as goal

abbrev pub invariant-loop-row : goal.invariant-loop-row
invariant-loop-row l =
    l.columns.items ≡ flat_map row_columns (take l.row-index l.rows)
