use Rattle.std.proofs.Common.{rules, ◌<◌, ◌≤◌, length, arith}
use Rattle.state_checker.proofs.ListSteps.{asked_end, asked_first, asked_step}
use Rattle.state_checker.proofs.lists.listed_pairs.Goals as goal

pub loop-number-init : goal.loop-number-init
loop-number-init c =
    asked_first c.args.rules.now c.args.question.now c.args.state.now c.new-pairs.result.items (search rules)

pub loop-number-preserved : goal.loop-number-preserved
loop-number-preserved c =
    let within : c.loop-number.number < length c.args.rules.now.rules = omega arith in
    asked_step c.args.rules.now c.args.question.now c.args.state.now c.loop-number.number _ _ within c.loop-number.invariant c.in_ok-list_asked.ensures.pairs

pub returns : goal.returns
returns c =
    let past : length c.args.rules.now.rules ≤ c.loop-number.number = omega arith in
    record { pairs = asked_end c.args.rules.now c.args.question.now c.args.state.now c.loop-number.number _ past c.loop-number.invariant }
