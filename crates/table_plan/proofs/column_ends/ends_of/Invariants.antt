use Rattle.std.proofs.Common.{◌≡◌, take}
use Rattle.std.specs.List.{flat_map}
use Rattle.table_plan.specs.Ends.{table_ends}
use Rattle.table_plan.proofs.column_ends.ends_of.Given as goal

abbrev pub invariant-loop-table : goal.invariant-loop-table
invariant-loop-table l =
    l.ends.items ≡ flat_map table_ends (take l.table-index l.tables)
