use Rattle.std.proofs.Common.{◌∙◌, ◌<◌, length, arith}
use Rattle.verdict_meaning.specs.Questions.{asked_rules}
use Rattle.state_checker.proofs.AskedSteps.{asked_rule}
use Rattle.state_checker.proofs.SettledSteps.{branch_is}
use Rattle.state_checker.proofs.lists.branch_at.Goals as goal

pub returns : goal.returns
returns c =
    let within : c.args.number < length c.args.rules.now.rules = omega arith in
    record {
      branch = c.branch_by.ensures.value ∙ branch_is c.args.rules.now c.args.state.now c.args.number c.premise.result within
          (λ row is. c.premise.ensures.value (asked_rules c.args.rules.now c.args.question.now) c.args.state.now row c.requires.reading.made (asked_rule c.args.rules.now c.args.question.now c.args.number row c.requires.asked is) is);
    }
