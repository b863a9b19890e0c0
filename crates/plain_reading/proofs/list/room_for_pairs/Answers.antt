use Rattle.std.proofs.Common.{◌≤◌, List, length, ap, arith}
use Rattle.rule_types.specs.declared.rule.Rule.{Rule}
use Rattle.plain_reading.proofs.ListSteps.{room_item, no_room}
use Rattle.plain_reading.proofs.list.room_for_pairs.Goals as goal

pub loop-rule-preserved : goal.loop-rule-preserved
loop-rule-preserved c =
    omega (
      arith,
      c.loop-rule.invariant,
      c.in_ok-add_room.ensures.longer,
      c.in_ok-add_room-2.ensures.longer,
      c.len.ensures.value,
      c.len-in-loop-rule.ensures.value,
      room_item c.args.rules.now.rules c.as_slice-rule-items.result.now c.loop-rule.rule-index c.rule-item.result c.as_slice-rule-items.ensures.value c.loop-rule-test.true c.rule-item.is,
    )

pub returns : goal.returns
returns c =
    let past : length c.args.rules.now.rules ≤ c.loop-rule.rule-index =
    omega (arith, c.loop-rule-test.false, ap (λ (l : List Rule). length l) c.as_slice-rule-items.ensures.value) in
    record { room = omega (arith, c.loop-rule.invariant, no_room c.args.rules.now.rules c.loop-rule.rule-index past, c.loop-rule.pairs.ok) }
