use Rattle.std.proofs.Common.{◌==◌, take, All, IsTrue}
use Rattle.std.specs.List.{list_any}
use Rattle.table_plan.proofs.table_reads.without_repeats.Given as goal

abbrev pub invariant-loop-column : goal.invariant-loop-column
invariant-loop-column l =
    All (λ column. IsTrue (list_any (λ c. c == column) l.columns.items)) (take l.column-index l.sorted)
