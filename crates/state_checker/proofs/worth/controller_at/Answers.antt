use Rattle.std.proofs.Common.{◌<◌, ◌≤◌, length, arith}
use Rattle.rule_meaning.specs.Worth.{controller_of}
use Rattle.verdict_meaning.specs.Questions.{asked_rules}
use Rattle.state_checker.proofs.AskedSteps.{asked_rule}
use Rattle.state_checker.proofs.SideSteps.{by_row, no_controller_at}
use Rattle.state_checker.proofs.worth.controller_at.Goals as goal

pub returns-then-at-len : goal.returns-then-at-len
returns-then-at-len c =
    let within : c.args.at.now.rule < length c.args.rules.now.rules = omega arith in
    record {
      value =
          by_row (controller_of c.args.rules.now c.args.state.now) c.args.rules.now.rules c.args.at.now c.controller.result within
          (λ row is. c.controller.ensures.value (asked_rules c.args.rules.now c.args.question.now) c.args.state.now row c.requires.reading.made (asked_rule c.args.rules.now c.args.question.now c.args.at.now.rule row c.requires.asked is) is);
    }

pub returns : goal.returns
returns c =
    let past : length c.args.rules.now.rules ≤ c.args.at.now.rule = omega arith in
    record { value = no_controller_at c.args.rules.now c.args.state.now c.args.at.now past }
