use Rattle.std.proofs.Common.{◌≡◌, ◌++◌, drop}
use Rattle.rule_types.specs.Reading.{branch_actions}
use Rattle.rule_meaning.specs.Premise.{places_of}
use Rattle.state_checker.proofs.lists.list_branch.Given as goal

abbrev pub invariant-loop-action : goal.invariant-loop-action
invariant-loop-action l =
    l.pairs.items ++ places_of l.rule l.branch l.action (drop l.action (branch_actions l.row l.branch))
    ≡ l.fn.pairs.items ++ places_of l.rule l.branch 0 (branch_actions l.row l.branch)
