use Rattle.std.proofs.Common.{◌≡◌, ◌++◌, map, take, drop}
use Rattle.premise_eval.specs.internal.ColumnReading.{column_read}
use Rattle.premise_eval.proofs.column.read_columns.Given as goal

abbrev pub invariant-loop-at : goal.invariant-loop-at
invariant-loop-at l =
    l.values ≡ map (column_read l.state l.names) (take l.at l.columns) ++ drop l.at l.fn.values
