use Rattle.std.proofs.Common.{◌≡◌, ℕ, Bool, None, take}
use Rattle.std.specs.List.{find}
use Rattle.rule_types.specs.declared.action.ActionAt.{ActionAt}
use Rattle.table_plan.specs.declared.piece_rows.PieceRow.{PieceRow}
use Rattle.table_plan.specs.PlanRows.{row_by}
use Rattle.table_plan.specs.internal.FlatRows.{row_of}
use Rattle.table_plan.proofs.row_walk.first_flat_row.Given as goal

abbrev pub invariant-loop-flat : goal.invariant-loop-flat
invariant-loop-flat l =
    (truth : ActionAt → ℕ → Bool) → find (λ (flat : PieceRow). row_by l.pieces truth (row_of flat)) (take l.flat-index l.rows) ≡ None
