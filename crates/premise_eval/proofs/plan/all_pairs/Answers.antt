use Rattle.std.proofs.Common.{◌∙◌, ap, ◌++◌, ◌∷◌, []}
use Rattle.premise_eval.proofs.PlanSteps.{none_all, all_more}
use Rattle.premise_eval.proofs.plan.all_pairs.Goals as goal

pub loop-rule-init : goal.loop-rule-init
loop-rule-init c = record {
  columns = c.requires.columns;
  pairs = none_all c.args.columns.now.items c.new-pairs.result.items c.new-pairs.ensures.items;
}

pub loop-rule-preserved : goal.loop-rule-preserved
loop-rule-preserved c = record {
  columns = c.in_ok-row.ensures.columns;
  pairs =
      all_more c.loop-rule.columns.items c.rule_pairs.new.columns.items c.args.rules.now.rules c.as_slice-rule-items.result.now c.loop-rule.pairs.items c.push.new.self.items
      c.loop-rule.rule-index c.rule-item.result c.in_ok-row.row.items
      c.in_ok-row.ensures.more c.as_slice-rule-items.ensures.value c.loop-rule-test.true c.rule-item.is
      (c.in_ok-push.ensures.items ∙ ap (λ l. c.loop-rule.pairs.items ++ l ∷ []) c.from_vec.ensures.value) c.loop-rule.invariant.pairs c.in_ok-row.ensures.pairs;
}
