use Rattle.std.proofs.Common.{sym, ap, ◌∙◌}
use Rattle.std.specs.Prelude.{option_map}
use Rattle.table_plan.specs.declared.plan_rows.PlanRow.{PlanRow}
use Rattle.table_plan.specs.PlanRows.{row_by, first_in}
use Rattle.table_plan.proofs.KeptRows.{find_none_more, find_here}
use Rattle.table_plan.proofs.row_walk.first_row.Goals as goal

pub returns-then-row_holds : goal.returns-then-row_holds
unfolding first_in
returns-then-row_holds g c =
    sym (ap (option_map (λ (row : PlanRow). row.action))
    (find_here (row_by c.args.pieces.now (g.T.Truths.truth c.args.truths.now)) c.args.rows.now c.loop-row.row-index c.row-item.result c.loop-row-test.true c.row-item.is c.loop-row.invariant (sym c.row_holds.ensures ∙ c.if-row_holds.true)))

pub loop-row-preserved : goal.loop-row-preserved
loop-row-preserved g c =
    find_none_more (row_by c.args.pieces.now (g.T.Truths.truth c.args.truths.now)) c.args.rows.now c.loop-row.row-index c.row-item.result c.loop-row-test.true c.row-item.is c.loop-row.invariant (sym c.row_holds.ensures ∙ c.if-row_holds.false)
