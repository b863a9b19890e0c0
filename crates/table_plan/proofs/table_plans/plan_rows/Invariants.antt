use Rattle.std.proofs.Common.{◌≡◌, take}
use Rattle.table_plan.specs.Plan.{pieces_of}
use Rattle.table_plan.specs.PlanRows.{first_in}
use Rattle.table_plan.specs.Told.{Told, ordered_told}
use Rattle.table_plan.proofs.table_plans.plan_rows.Given as goal

abbrev pub invariant-loop-row : goal.invariant-loop-row
invariant-loop-row l =
    (told : Told) → first_in (pieces_of l.columns told.value) told.truth l.plan.items ≡ ordered_told told (take l.row-index l.row-items)
