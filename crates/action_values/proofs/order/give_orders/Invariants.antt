use Rattle.std.proofs.Common.{◌≡◌, ◌≤◌, drop, length, map, vec_len}
use Rattle.std.specs.Vec.{vec_capacity}
use Rattle.rule_meaning.specs.Memories.{memory_of}
use Rattle.rule_meaning.specs.Reading.{Choice, orders_on}
use Rattle.action_values.specs.Readings.{prepended}
use Rattle.action_values.proofs.order.give_orders.Given as goal

abbrev pub invariant-loop-i : goal.invariant-loop-i
invariant-loop-i l = record {
  orders : (choice : Choice) → l.firsts ≡ map (choice l.state) l.rules.controlled
      → prepended l.orders.items (orders_on choice l.rules l.tables l.state (memory_of l.before) (drop l.i l.rules.controlled))
      ≡ orders_on choice l.rules l.tables l.state (memory_of l.before) l.rules.controlled;
  count : vec_len l.orders ≤ l.i;
  room : length l.rules.controlled ≤ vec_capacity l.orders;
  kept : vec_capacity l.fn.orders ≤ vec_capacity l.orders;
}
