use Rattle.table_plan.specs.Ends.{table_ends}
use Rattle.table_plan.specs.PlanRows.{KnowsReads}
use Rattle.table_plan.specs.internal.Collected.{IsPlanned}
use Rattle.table_plan.specs.internal.FlatRows.{KnowsFlat}
use Rattle.table_plan.proofs.RowSteps.{all_at, plans_more, all_pushed}
use Rattle.table_plan.proofs.table_plans.plan_tables.Goals as goal

pub plan_table-requires-clause-planned : goal.plan_table-requires-clause-planned
plan_table-requires-clause-planned c =
    all_at (IsPlanned c.args.columns.now) table_ends c.args.tables.now c.loop-table.table-index c.table-item.result c.loop-table-test.true c.table-item.is c.requires.planned

pub loop-table-preserved : goal.loop-table-preserved
loop-table-preserved c = record {
  orders = plans_more c.args.columns.now c.args.tables.now c.loop-table.plan.items c.push.new.self.items c.loop-table.table-index c.table-item.result c.in_ok-plan_table.field-0 c.loop-table-test.true c.table-item.is c.in_ok-push.ensures.items c.loop-table.invariant.orders c.in_ok-plan_table.ensures.orders;
  reads = all_pushed KnowsReads c.loop-table.plan.items c.push.new.self.items c.in_ok-plan_table.field-0 c.in_ok-push.ensures.items c.loop-table.invariant.reads c.in_ok-plan_table.ensures.reads;
  flat = all_pushed KnowsFlat c.loop-table.plan.items c.push.new.self.items c.in_ok-plan_table.field-0 c.in_ok-push.ensures.items c.loop-table.invariant.flat c.in_ok-plan_table.ensures.flat;
}
