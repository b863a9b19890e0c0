use Rattle.std.proofs.Common.{ℕ, ◌+◌, ◌<◌, ◌≤◌, length, vec_len, drop, arith}
use Rattle.std.specs.Vec.{vec_capacity}
use Rattle.rule_types.specs.declared.rule.Rule.{Rule}
use Rattle.rule_meaning.specs.Premise.{listed, listed_by, listed_branch}
use Rattle.plain_reading.specs.Room.{pair_room}
use Rattle.plain_reading.proofs.ListSteps.{rule_step, rule_end, row_room, room_step}
use Rattle.plain_reading.proofs.list.list_pairs.Goals as goal

pub list_rule-requires-clause-room : goal.list_rule-requires-clause-room
list_rule-requires-clause-room c = λ row is.
    omega (arith, c.loop-i.invariant.room, row_room c.args.rules.now.rules c.loop-i.i row is)

pub loop-i-preserved : goal.loop-i-preserved
loop-i-preserved c =
    let within : c.loop-i.i < length c.args.rules.now.rules = omega arith in
    let fits : vec_len c.list_rule.new.pairs + pair_room (drop (c.loop-i.i + 1) c.args.rules.now.rules) ≤ vec_capacity c.loop-i.pairs =
    room_step c.args.rules.now.rules c.loop-i.i (vec_len c.loop-i.pairs) (vec_len c.list_rule.new.pairs) (vec_capacity c.loop-i.pairs) within c.list_rule.ensures.longer c.loop-i.invariant.room in
    record {
      pairs =
          rule_step (λ (place : ℕ) (rule : Rule). listed_branch c.args.rules.now c.args.state.now rule) c.args.rules.now.rules c.loop-i.i
          (listed_by (λ (place : ℕ) (rule : Rule). listed_branch c.args.rules.now c.args.state.now rule) 0 c.args.rules.now.rules)
          c.loop-i.pairs.items c.list_rule.new.pairs.items within c.loop-i.invariant.pairs c.list_rule.ensures.pairs;
      room = omega (arith, fits, c.list_rule.ensures.capacity);
      kept = omega (arith, c.list_rule.ensures.capacity, c.loop-i.invariant.kept);
    }

pub returns-clause-pairs : goal.returns-clause-pairs
unfolding listed
returns-clause-pairs c =
    let past : length c.args.rules.now.rules ≤ c.loop-i.i = omega arith in
    rule_end (λ (place : ℕ) (rule : Rule). listed_branch c.args.rules.now c.args.state.now rule) c.args.rules.now.rules c.loop-i.i
    (listed_by (λ (place : ℕ) (rule : Rule). listed_branch c.args.rules.now c.args.state.now rule) 0 c.args.rules.now.rules)
    c.loop-i.pairs.items past c.loop-i.invariant.pairs
