use Rattle.table_plan.specs.Ends.{clause_ends, row_ends}
use Rattle.table_plan.specs.internal.Collected.{IsPlanned}
use Rattle.table_plan.proofs.RowSteps.{all_within}
use Rattle.table_plan.proofs.part_plans.plan_clauses.Goals as goal

pub plan_clause-requires-clause-planned : goal.plan_clause-requires-clause-planned
unfolding row_ends
plan_clause-requires-clause-planned c =
    all_within (IsPlanned c.args.columns.now) clause_ends c.args.row.now.clauses c.as_slice-clause-items.result.now c.loop-clause.clause-index c.clause-item.result c.as_slice-clause-items.ensures.value c.loop-clause-test.true c.clause-item.is c.requires.planned
