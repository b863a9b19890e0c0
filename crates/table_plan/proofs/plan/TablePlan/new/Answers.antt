use Rattle.std.proofs.Common.{ap, ◌∙◌}
use Rattle.std.specs.List.{flat_map}
use Rattle.table_plan.specs.Ends.{table_ends}
use Rattle.table_plan.proofs.NewPlan.{new_placed, new_planned, new_plan, new_columns}
use Rattle.table_plan.proofs.plan.TablePlan.new.Goals as goal

pub plan_tables-requires-clause-placed : goal.plan_tables-requires-clause-placed
plan_tables-requires-clause-placed c =
    new_placed c.drafts_of.new.places c.in_ok-drafts.drafts.items c.in_ok-columns.columns.items c.as_slice-2.result.now c.as_slice-2.ensures.value c.in_ok-columns.ensures c.in_ok-drafts.ensures.placed

pub plan_tables-requires-clause-planned : goal.plan_tables-requires-clause-planned
plan_tables-requires-clause-planned c =
    new_planned c.in_ok-drafts.drafts.items c.in_ok-columns.columns.items c.as_slice-2.result.now c.in_ok-ends.ends.items c.as_slice.result.now _ c.as_slice-2.ensures.value c.as_slice.ensures.value c.in_ok-ends.ensures c.in_ok-columns.ensures c.in_ok-drafts.ensures.kept

pub returns : goal.returns
returns c = record {
  plan =
      new_plan c.in_ok-columns.columns.items c.as_slice-2.result.now c.from_vec.result c.args.tables.now.tables c.as_slice-tables.result.now c.in_ok-plans.plans.items c.from_vec-2.result
      c.as_slice-2.ensures.value c.from_vec.ensures.value c.as_slice-tables.ensures.value c.from_vec-2.ensures.value c.in_ok-plans.ensures.orders;
  columns =
      new_columns c.in_ok-drafts.drafts.items c.in_ok-columns.columns.items c.as_slice-2.result.now c.from_vec.result c.in_ok-ends.ends.items c.as_slice.result.now _ c.as_slice-2.ensures.value c.from_vec.ensures.value c.as_slice.ensures.value
      (c.in_ok-ends.ensures ∙ ap (flat_map table_ends) c.as_slice-tables.ensures.value) c.in_ok-columns.ensures c.in_ok-drafts.ensures.placed.once c.in_ok-drafts.ensures.kept c.in_ok-drafts.ensures.from;
}
