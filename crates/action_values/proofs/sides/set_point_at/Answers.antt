use Rattle.std.proofs.Common.{◌<◌, ◌≤◌, length, arith}
use Rattle.rule_meaning.specs.Worth.{set_point_of}
use Rattle.action_values.proofs.SideSteps.{contains_at, by_row, no_set_point_at}
use Rattle.action_values.proofs.sides.set_point_at.Goals as goal

pub returns-then-at-len : goal.returns-then-at-len
returns-then-at-len c =
    let within : c.args.at.now.rule < length c.args.rules.now.rules = omega arith in
    record {
      value =
          by_row (set_point_of c.args.rules.now c.args.state.now) c.args.rules.now.rules c.args.at.now c.set_point.result within
          (λ row is. c.set_point.ensures.value c.args.rules.now.rules c.args.state.now row c.requires.sound.made (contains_at c.args.rules.now.rules c.args.at.now.rule row is) is);
    }

pub returns : goal.returns
returns c =
    let past : length c.args.rules.now.rules ≤ c.args.at.now.rule = omega arith in
    record { value = no_set_point_at c.args.rules.now c.args.state.now c.args.at.now past }
