use Rattle.std.proofs.Common.{rules, ◌∙◌, List, ap}
use Rattle.table_plan.specs.Plan.{pieces_of}
use Rattle.table_plan.specs.declared.plan_column.PlanColumn.{PlanColumn}
use Rattle.table_run.specs.Planned.{value_read}
use Rattle.table_run.proofs.PlannedSteps.{taken, next_is}
use Rattle.table_run.proofs.planned_tables.PlannedTables.read.Goals as goal

pub returns-clause-next : goal.returns-clause-next
returns-clause-next c =
    let columns = ap (λ (l : List PlanColumn). pieces_of l (value_read c.args.rules.now c.args.state.now)) c.columns.ensures.value in
    taken c.self.inside.next.len c.order_changed.new.next _ (search rules)
    ∙ next_is c.args.rules.now c.args.state.now c.args.values.now.columns c.args.self.now c.self.inside.plan c.deref-2.result.now c.deref-3.result.now c.deref-4.result.now
    c.order_changed.new.next c.new-truths.result c.requires.sound.formed c.requires.planned
    (search rules) (search rules) (search rules)
    (c.deref-3.ensures.value ∙ taken c.self.inside.fresh.len c.read_pieces.new.pieces _ (search rules) ∙ c.read_pieces.ensures.pieces ∙ columns)
    c.new-truths.ensures.rules c.new-truths.ensures.state c.order_changed.ensures.each c.order_changed.ensures.next
