use Rattle.std.proofs.Common.{◌∙◌, None, Some}
use Rattle.table_plan.proofs.KeptRows.{keeps_at, kept_in}
use Rattle.table_plan.proofs.plan.TablePlan.keeps_order.Goals as goal

pub returns-in_default-clause-value : goal.returns-in_default-clause-value
returns-in_default-clause-value c =
    keeps_at c.args.self.now c.self.inside.columns c.self.inside.tables c.args.table c.args.old.now c.args.new.now None c.self.view_is c.in_default.ensures.value

pub returns-in_default-clause-same : goal.returns-in_default-clause-same
returns-in_default-clause-same c = λ is truth other.
    kept_in c.args.self.now c.self.inside.columns c.self.inside.tables c.args.table c.args.old.now c.args.new.now _ c.self.view_is c.self.invariant.0
    (keeps_at c.args.self.now c.self.inside.columns c.self.inside.tables c.args.table c.args.old.now c.args.new.now None c.self.view_is c.in_default.ensures.value) is truth other

pub returns-clause-value : goal.returns-clause-value
returns-clause-value c =
    c.keeps_table.ensures
    ∙ keeps_at c.args.self.now c.self.inside.columns c.self.inside.tables c.args.table c.args.old.now c.args.new.now (Some c.in-Some.table.now) c.self.view_is c.in-Some.ensures.value

pub returns-clause-same : goal.returns-clause-same
returns-clause-same c = λ is truth other.
    kept_in c.args.self.now c.self.inside.columns c.self.inside.tables c.args.table c.args.old.now c.args.new.now c.keeps_table.result c.self.view_is c.self.invariant.0
    (c.keeps_table.ensures
    ∙ keeps_at c.args.self.now c.self.inside.columns c.self.inside.tables c.args.table c.args.old.now c.args.new.now (Some c.in-Some.table.now) c.self.view_is c.in-Some.ensures.value) is truth other
