use Rattle.std.proofs.Common.{◌≡◌, map, take}
use Rattle.table_plan.specs.internal.FlatRows.{row_of}
use Rattle.table_plan.proofs.piece_rows.flat_rows.Given as goal

abbrev pub invariant-loop-row : goal.invariant-loop-row
invariant-loop-row l = map row_of l.flat.items ≡ take l.row-index l.rows
