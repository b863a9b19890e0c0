use Rattle.std.proofs.Common.{◌≡◌, ◌++◌, take}
use Rattle.std.specs.List.{flat_map}
use Rattle.table_plan.specs.Ends.{clause_ends}
use Rattle.table_plan.proofs.column_ends.push_row_ends.Given as goal

abbrev pub invariant-loop-clause : goal.invariant-loop-clause
invariant-loop-clause l =
    l.ends.items ≡ l.fn.ends.items ++ flat_map clause_ends (take l.clause-index l.clause-items)
