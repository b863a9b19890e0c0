use Rattle.std.proofs.Common.{take, All}
use Rattle.table_plan.specs.PlanRows.{KnowsReads}
use Rattle.table_plan.specs.internal.FlatRows.{KnowsFlat}
use Rattle.table_plan.specs.internal.Planned.{PlansTables}
use Rattle.table_plan.proofs.table_plans.plan_tables.Given as goal

abbrev pub invariant-loop-table : goal.invariant-loop-table
invariant-loop-table l =
    record {
      orders : PlansTables l.columns (take l.table-index l.tables) l.plan.items;
      reads : All KnowsReads l.plan.items;
      flat : All KnowsFlat l.plan.items;
    }
