use Rattle.premise_eval.specs.internal.Marks.{uses_of}
use Rattle.premise_eval.proofs.MarkSteps.{more_none, more_item, all_of_rule}
use Rattle.premise_eval.proofs.marks.mark_rule.Goals as goal

pub loop-condition-init : goal.loop-condition-init
loop-condition-init c = more_none c.args.marks.now

pub loop-condition-preserved : goal.loop-condition-preserved
loop-condition-preserved c =
    more_item (uses_of c.args.names.now) c.args.rule.now.conditions c.as_slice-condition-items.result.now c.loop-condition.condition-index c.condition-item.result
    c.args.marks.now c.loop-condition.marks c.mark_condition.new.marks
    c.as_slice-condition-items.ensures.value c.loop-condition-test.true c.condition-item.is c.loop-condition.invariant c.mark_condition.ensures.marks c.loop-condition.auto.marks

pub returns : goal.returns
returns c = record {
  marks =
      all_of_rule c.args.names.now c.args.rule.now c.as_slice-condition-items.result.now c.loop-condition.condition-index c.args.marks.now c.loop-condition.marks
      c.as_slice-condition-items.ensures.value c.loop-condition-test.false c.loop-condition.invariant;
}
