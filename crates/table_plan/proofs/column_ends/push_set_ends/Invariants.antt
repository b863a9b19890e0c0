use Rattle.std.proofs.Common.{◌≡◌, ◌++◌, take}
use Rattle.std.specs.List.{flat_map}
use Rattle.table_plan.specs.Ends.{interval_ends}
use Rattle.table_plan.proofs.column_ends.push_set_ends.Given as goal

abbrev pub invariant-loop-interval : goal.invariant-loop-interval
invariant-loop-interval l =
    l.ends.items ≡ l.fn.ends.items ++ flat_map (interval_ends l.side) (take l.interval-index l.set)
