use Rattle.std.proofs.Common.{◌||◌, ap, ◌∙◌, arith}
use Rattle.std.specs.List.{list_any}
use Rattle.std.proofs.lemmas.List.{take_all}
use Rattle.table_compiler.specs.Meaning.{is_in}
use Rattle.table_plan.specs.PlanRows.{part_by}
use Rattle.table_plan.proofs.RowSteps.{set_step, set_begun}
use Rattle.table_plan.proofs.part_plans.add_set.Goals as goal

pub loop-interval-init : goal.loop-interval-init
loop-interval-init c = λ pieces truth value told. set_begun value (list_any (part_by pieces truth) c.args.plan.now.items)

pub loop-interval-preserved : goal.loop-interval-preserved
loop-interval-preserved c = λ pieces truth value told.
    set_step pieces truth c.args.column.now.cuts c.args.set.now c.loop-interval.interval-index c.args.at c.interval-item.result c.range_of.result c.args.plan.now.items c.loop-interval.plan.items c.push.new.self.items
    c.loop-interval-test.true c.interval-item.is c.range_of.ensures.column c.range_of.ensures.range c.in_ok-push.ensures.items value told (c.loop-interval.invariant pieces truth value told)

pub returns : goal.returns
returns c = λ pieces truth value told.
    c.loop-interval.invariant pieces truth value told
    ∙ ap (λ set. list_any (part_by pieces truth) c.args.plan.now.items || is_in set value) (take_all c.loop-interval.interval-index c.args.set.now (omega arith))
