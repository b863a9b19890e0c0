use Rattle.std.proofs.Common.{◌<◌, ◌≤◌, length, arith}
use Rattle.rule_meaning.specs.Memories.{memory_of}
use Rattle.action_values.proofs.OrderSteps.{orders_step, orders_more, orders_end}
use Rattle.action_values.proofs.order.give_orders.Goals as goal

pub returns-in-Err-clause-orders : goal.returns-in-Err-clause-orders
returns-in-Err-clause-orders c = λ choice are.
    let within : c.loop-i.i < length c.args.rules.now.controlled = omega arith in
    orders_step choice c.args.rules.now c.args.tables.now c.args.state.now (memory_of c.args.before.now) c.args.firsts.now c.loop-i.i _ c.loop-i.orders.items _ _ within are (c.loop-i.invariant.orders choice are)
    (λ link later is. c.in-Err.ensures.added link later is)

pub loop-i-preserved : goal.loop-i-preserved
loop-i-preserved c =
    let within : c.loop-i.i < length c.args.rules.now.controlled = omega arith in
    record {
      orders = λ choice are.
          orders_more choice c.args.rules.now c.args.tables.now c.args.state.now (memory_of c.args.before.now) c.args.firsts.now c.loop-i.i _ c.loop-i.orders.items c.add_order.new.orders.items _ within are (c.loop-i.invariant.orders choice are)
          c.in_default.ensures.added;
      count = omega (arith, c.in_default.ensures.longer, c.loop-i.invariant.count);
      room = omega (arith, c.in_default.ensures.capacity, c.loop-i.invariant.room);
      kept = omega (arith, c.in_default.ensures.capacity, c.loop-i.invariant.kept);
    }

pub returns-clause-orders : goal.returns-clause-orders
returns-clause-orders c = λ choice are.
    let past : length c.args.rules.now.controlled ≤ c.loop-i.i = omega arith in
    orders_end choice c.args.rules.now c.args.tables.now c.args.state.now (memory_of c.args.before.now) c.loop-i.i c.loop-i.orders.items _ past (c.loop-i.invariant.orders choice are)
