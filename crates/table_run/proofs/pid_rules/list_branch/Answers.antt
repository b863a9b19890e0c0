use Rattle.std.proofs.Common.{◌+◌, ◌<◌, ◌≤◌, ◌++◌, ◌∙◌, List, length, get_or, sym, ap, arith}
use Rattle.std.specs.Vec.{vec_capacity}
use Rattle.rule_types.specs.declared.action.Action.{Action}
use Rattle.rule_types.specs.declared.action.ActionAt.{ActionAt}
use Rattle.rule_types.specs.Reading.{branch_actions}
use Rattle.table_run.specs.internal.PidRules.{pid_alone, pids_from}
use Rattle.table_run.proofs.PidSteps.{branch_step, branch_room, branch_end}
use Rattle.table_run.proofs.pid_rules.list_branch.Goals as goal

pub add_pid-requires : goal.add_pid-requires
add_pid-requires c =
    let actions = branch_actions c.args.row.now c.args.branch in
    let one = c.index-actions-action.result in
    let same = c.as_slice-actions.ensures.value ∙ c.actions.ensures.value in
    let at : ActionAt = record { rule = c.args.rule; branch = c.args.branch; action = c.loop-action.action } in
    let within : c.loop-action.action < length actions = omega (arith, c.loop-action-test.true, ap (λ (l : List Action). length l) same) in
    let fits : length c.args.pairs.now.items + length (pids_from c.args.rule c.args.branch 0 actions) ≤ vec_capacity c.args.pairs.now = omega (arith, c.requires.room, c.args.pairs.now.ok) in
    let room = branch_room c.args.rule c.args.branch actions c.loop-action.action one c.args.pairs.now.items c.loop-action.pairs.items (vec_capacity c.args.pairs.now)
    within (c.index-actions-action.is ∙ ap (λ l. get_or l c.loop-action.action one) same) c.loop-action.invariant.pairs fits in
    let here = ap (λ (a : Action). length (pid_alone a.what at)) c.index-actions-action.is in
    record { room = omega (arith, room, here, c.loop-action.invariant.capacity, c.loop-action.pairs.ok) }

pub loop-action-preserved : goal.loop-action-preserved
loop-action-preserved c =
    let actions = branch_actions c.args.row.now c.args.branch in
    let one = c.index-actions-action.result in
    let same = c.as_slice-actions.ensures.value ∙ c.actions.ensures.value in
    let at : ActionAt = record { rule = c.args.rule; branch = c.args.branch; action = c.loop-action.action } in
    let within : c.loop-action.action < length actions = omega (arith, c.loop-action-test.true, ap (λ (l : List Action). length l) same) in
    record {
      pairs = branch_step c.args.rule c.args.branch actions c.loop-action.action one (c.args.pairs.now.items ++ pids_from c.args.rule c.args.branch 0 actions) c.loop-action.pairs.items c.add_pid.new.pairs.items
          within (c.index-actions-action.is ∙ ap (λ l. get_or l c.loop-action.action one) same) c.loop-action.invariant.pairs
          (c.add_pid.ensures.pairs ∙ ap (λ (a : Action). c.loop-action.pairs.items ++ pid_alone a.what at) (sym c.index-actions-action.is));
      capacity = c.add_pid.ensures.capacity ∙ c.loop-action.invariant.capacity;
    }

pub returns-clause-pairs : goal.returns-clause-pairs
returns-clause-pairs c =
    let actions = branch_actions c.args.row.now c.args.branch in
    let same = c.as_slice-actions.ensures.value ∙ c.actions.ensures.value in
    let past : length actions ≤ c.loop-action.action = omega (arith, c.loop-action-test.false, ap (λ (l : List Action). length l) same) in
    branch_end c.args.rule c.args.branch actions c.loop-action.action (c.args.pairs.now.items ++ pids_from c.args.rule c.args.branch 0 actions) c.loop-action.pairs.items past c.loop-action.invariant.pairs
