use Rattle.std.proofs.Common.{◌<◌, ◌≤◌, ◌++◌, ◌∙◌, List, length, ap, arith}
use Rattle.rule_types.specs.declared.action.Action.{Action}
use Rattle.rule_types.specs.Reading.{branch_actions}
use Rattle.rule_meaning.specs.Premise.{places_of}
use Rattle.plain_reading.proofs.ListSteps.{place_step, place_end}
use Rattle.plain_reading.proofs.list.list_branch.Goals as goal

pub loop-action-preserved : goal.loop-action-preserved
loop-action-preserved c =
    let within : c.loop-action.action < length (branch_actions c.args.row.now c.args.branch) = omega (arith, ap (λ (l : List Action). length l) c.actions.ensures.value) in
    record {
      pairs =
          place_step c.args.rule c.args.branch (branch_actions c.args.row.now c.args.branch) c.loop-action.action (c.args.pairs.now.items ++ places_of c.args.rule c.args.branch 0 (branch_actions c.args.row.now c.args.branch)) c.loop-action.pairs.items c.add.new.pairs.items within c.loop-action.invariant.pairs c.add.ensures.items;
      longer = omega (arith, c.add.ensures.longer, c.loop-action.invariant.longer);
      capacity = c.add.ensures.capacity ∙ c.loop-action.invariant.capacity;
    }

pub returns-clause-pairs : goal.returns-clause-pairs
returns-clause-pairs c =
    let past : length (branch_actions c.args.row.now c.args.branch) ≤ c.loop-action.action = omega (arith, ap (λ (l : List Action). length l) c.actions.ensures.value) in
    place_end c.args.rule c.args.branch (branch_actions c.args.row.now c.args.branch) c.loop-action.action (c.args.pairs.now.items ++ places_of c.args.rule c.args.branch 0 (branch_actions c.args.row.now c.args.branch)) c.loop-action.pairs.items past c.loop-action.invariant.pairs
