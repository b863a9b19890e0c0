use Rattle.std.proofs.Common.{◌≡◌, arith}
use Rattle.action_values.proofs.OrderSteps.{number_is}
use Rattle.action_values.proofs.order.constant_worth.Goals as goal

pub returns-in-Constant : goal.returns-in-Constant
returns-in-Constant c =
    let on : c.args.action.now.link ≡ c.args.link = omega (arith, c.if-action-link.false) in
    record {
      value = λ x tables s m conditions same.
          number_is x tables s m conditions c.args.action.now c.in-Constant.number c.capped.result c.args.link c.args.rate.now
          on c.in-Constant.is c.capped.ensures.value same;
    }
