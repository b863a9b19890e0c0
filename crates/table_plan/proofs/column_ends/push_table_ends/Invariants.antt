use Rattle.std.proofs.Common.{◌≡◌, ◌++◌, take}
use Rattle.std.specs.List.{flat_map}
use Rattle.table_plan.specs.Ends.{row_ends}
use Rattle.table_plan.proofs.column_ends.push_table_ends.Given as goal

abbrev pub invariant-loop-row : goal.invariant-loop-row
invariant-loop-row l =
    l.ends.items ≡ l.fn.ends.items ++ flat_map row_ends (take l.row-index l.row-items)
