use Rattle.std.proofs.Common.{◌≡◌, ◌++◌, take}
use Rattle.std.specs.List.{flat_map}
use Rattle.table_plan.specs.Ends.{part_ends}
use Rattle.table_plan.proofs.column_ends.push_clause_ends.Given as goal

abbrev pub invariant-loop-part : goal.invariant-loop-part
invariant-loop-part l =
    l.ends.items ≡ l.fn.ends.items ++ flat_map part_ends (take l.part-index l.part-items)
