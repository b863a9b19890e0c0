use Rattle.premise_eval.specs.internal.Marks.{rule_uses}
use Rattle.std.proofs.Common.{subst}
use Rattle.premise_eval.specs.internal.Marks.{MarksNames}
use Rattle.premise_eval.proofs.MarkSteps.{more_none, more_item, all_items, all_marked}
use Rattle.premise_eval.proofs.marks.mark_all.Goals as goal

pub loop-rule-init : goal.loop-rule-init
loop-rule-init c = more_none c.clear.new.marks

pub loop-rule-preserved : goal.loop-rule-preserved
loop-rule-preserved c =
    more_item (rule_uses c.args.rules.now.names) c.args.rules.now.rules c.as_slice-rule-items.result.now c.loop-rule.rule-index c.rule-item.result
    c.clear.new.marks c.loop-rule.marks c.mark_rule.new.marks
    c.as_slice-rule-items.ensures.value c.loop-rule-test.true c.rule-item.is c.loop-rule.invariant
    (subst (λ l. MarksNames (rule_uses l c.rule-item.result) c.loop-rule.marks c.mark_rule.new.marks) c.as_slice-names.ensures.value c.mark_rule.ensures.marks)
    c.loop-rule.auto.marks

pub returns : goal.returns
returns c = record {
  marks =
      all_marked c.args.rules.now c.args.rules.now.rules _ c.clear.new.marks c.loop-rule.marks c.clear.ensures c.requires.each
      (all_items (rule_uses c.args.rules.now.names) c.args.rules.now.rules c.as_slice-rule-items.result.now c.loop-rule.rule-index c.clear.new.marks c.loop-rule.marks
      c.as_slice-rule-items.ensures.value c.loop-rule-test.false c.loop-rule.invariant);
}
