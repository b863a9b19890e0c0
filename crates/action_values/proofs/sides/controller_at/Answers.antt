use Rattle.std.proofs.Common.{◌<◌, ◌≤◌, length, arith}
use Rattle.rule_meaning.specs.Worth.{controller_of}
use Rattle.action_values.proofs.SideSteps.{contains_at, by_row, no_controller_at}
use Rattle.action_values.proofs.sides.controller_at.Goals as goal

pub returns-then-at-len : goal.returns-then-at-len
returns-then-at-len c =
    let within : c.args.at.now.rule < length c.args.rules.now.rules = omega arith in
    record {
      value =
          by_row (controller_of c.args.rules.now c.args.state.now) c.args.rules.now.rules c.args.at.now c.controller.result within
          (λ row is. c.controller.ensures.value c.args.rules.now.rules c.args.state.now row c.requires.sound.made (contains_at c.args.rules.now.rules c.args.at.now.rule row is) is);
    }

pub returns : goal.returns
returns c =
    let past : length c.args.rules.now.rules ≤ c.args.at.now.rule = omega arith in
    record { value = no_controller_at c.args.rules.now c.args.state.now c.args.at.now past }
