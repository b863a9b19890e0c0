use Rattle.std.proofs.Common.{◌<◌, ◌≤◌, List, length, ap, arith}
use Rattle.rule_types.specs.declared.action.Action.{Action}
use Rattle.rule_types.specs.Reading.{branch_actions}
use Rattle.state_checker.proofs.ListSteps.{place_step, place_end}
use Rattle.state_checker.proofs.lists.list_branch.Goals as goal

pub loop-action-preserved : goal.loop-action-preserved
loop-action-preserved c =
    let within : c.loop-action.action < length (branch_actions c.args.row.now c.args.branch) = omega (arith, ap (λ (l : List Action). length l) c.actions.ensures.value) in
    place_step c.args.rule c.args.branch (branch_actions c.args.row.now c.args.branch) c.loop-action.action _ _ _ within c.loop-action.invariant c.in_ok-add.ensures.adds

pub returns : goal.returns
returns c =
    let past : length (branch_actions c.args.row.now c.args.branch) ≤ c.loop-action.action = omega (arith, ap (λ (l : List Action). length l) c.actions.ensures.value) in
    record { pairs = place_end c.args.rule c.args.branch (branch_actions c.args.row.now c.args.branch) c.loop-action.action _ _ past c.loop-action.invariant }
