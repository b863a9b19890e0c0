use Rattle.std.proofs.Common.{ap, ◌∙◌}
use Rattle.table_plan.specs.Ends.{row_ends, table_ends}
use Rattle.table_plan.specs.Plan.{pieces_of}
use Rattle.table_plan.specs.PlanRows.{first_in}
use Rattle.table_plan.specs.internal.Collected.{IsPlanned}
use Rattle.table_plan.proofs.RowSteps.{all_within, first_more, first_none}
use Rattle.table_plan.proofs.table_plans.plan_rows.Goals as goal

pub loop-row-init : goal.loop-row-init
loop-row-init c = λ told. ap (first_in (pieces_of c.args.columns.now told.value) told.truth) c.new-plan.ensures.items ∙ first_none (pieces_of c.args.columns.now told.value) told

pub plan_row-requires-clause-planned : goal.plan_row-requires-clause-planned
unfolding table_ends
plan_row-requires-clause-planned c =
    all_within (IsPlanned c.args.columns.now) row_ends c.args.table.now.rows c.as_slice-row-items.result.now c.loop-row.row-index c.row-item.result c.as_slice-row-items.ensures.value c.loop-row-test.true c.row-item.is c.requires.planned

pub loop-row-preserved : goal.loop-row-preserved
loop-row-preserved c = λ told.
    first_more (pieces_of c.args.columns.now told.value) told c.loop-row.plan.items c.push.new.self.items c.as_slice-row-items.result.now c.loop-row.row-index c.in_ok-plan_row.field-0 c.row-item.result
    c.loop-row-test.true c.row-item.is c.in_ok-push.ensures.items (c.loop-row.invariant told) c.in_ok-plan_row.ensures.action (c.in_ok-plan_row.ensures.holds told)
