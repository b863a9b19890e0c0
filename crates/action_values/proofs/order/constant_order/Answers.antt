use Rattle.rule_meaning.specs.Reading.{conditions_at}
use Rattle.action_values.proofs.OrderSteps.{number_order}
use Rattle.action_values.proofs.order.constant_order.Goals as goal

pub returns : goal.returns
returns c = record {
  value = λ tables s m.
      number_order c.args.rules.now tables s m c.args.link c.args.at.now c.in_ok-action.action.now c.in_ok-value.value
      c.in_ok-action.ensures.value
      (c.in_ok-value.ensures.value c.args.rules.now tables s m (conditions_at c.args.rules.now.rules c.args.at.now) c.requires.rate);
}
