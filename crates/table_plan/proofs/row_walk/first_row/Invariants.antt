use Rattle.std.proofs.Common.{◌≡◌, None, take}
use Rattle.std.specs.List.{find}
use Rattle.table_plan.specs.PlanRows.{row_by}
use Rattle.table_plan.proofs.row_walk.first_row.Given as goal

abbrev pub invariant-loop-row : goal.invariant-loop-row
invariant-loop-row g l =
    find (row_by l.pieces (g.T.Truths.truth l.truths)) (take l.row-index l.rows) ≡ None
