use Rattle.table_plan.specs.Ends.{part_ends, clause_ends}
use Rattle.table_plan.specs.internal.Collected.{IsPlanned}
use Rattle.table_plan.proofs.RowSteps.{all_within}
use Rattle.table_plan.proofs.part_plans.plan_parts.Goals as goal

pub add_part-requires-clause-planned : goal.add_part-requires-clause-planned
unfolding clause_ends
add_part-requires-clause-planned c =
    all_within (IsPlanned c.args.columns.now) part_ends c.args.clause.now.parts c.as_slice-part-items.result.now c.loop-part.part-index c.part-item.result c.as_slice-part-items.ensures.value c.loop-part-test.true c.part-item.is c.requires.planned
