use Rattle.premise_eval.proofs.PlanSteps.{extends_itself, extends_on, none_paired, pairs_more}
use Rattle.premise_eval.proofs.plan.rule_pairs.Goals as goal

pub loop-condition-init : goal.loop-condition-init
loop-condition-init c = record {
  columns = c.requires.columns;
  more = extends_itself c.args.columns.now.items;
  pairs = none_paired c.args.columns.now.items c.new-pairs.result.items c.new-pairs.ensures.items;
}

pub loop-condition-preserved : goal.loop-condition-preserved
loop-condition-preserved c = record {
  columns = c.in_ok-pair.ensures.columns;
  more = extends_on c.args.columns.now.items c.loop-condition.columns.items c.pair_of.new.columns.items c.loop-condition.invariant.more c.in_ok-pair.ensures.more;
  pairs =
      pairs_more c.loop-condition.columns.items c.pair_of.new.columns.items c.args.rule.now.conditions c.as_slice-condition-items.result.now c.loop-condition.pairs.items c.push.new.self.items
      c.loop-condition.condition-index c.condition-item.result c.in_ok-pair.pair
      c.in_ok-pair.ensures.more c.as_slice-condition-items.ensures.value c.loop-condition-test.true c.condition-item.is c.in_ok-push.ensures.items c.loop-condition.invariant.pairs c.in_ok-pair.ensures.pair;
}
