use Rattle.std.proofs.Common.{◌≡◌, List, length}
use Rattle.std.specs.List.{list_any}
use Rattle.rule_types.specs.declared.action.ActionAt.{ActionAt}
use Rattle.rule_meaning.specs.Settled.{settled_on}
use Rattle.priority_settle.specs.Settling.{settled_each}
use Rattle.verdict_meaning.specs.Events.{is_pair_of}
use Rattle.state_checker.proofs.settled.some_settled.Given as goal

abbrev pub invariant-actions : goal.invariant-actions
invariant-actions l =
    (pairs : List ActionAt) → l.fn.firsts ≡ settled_each l.fn.rules.rules l.fn.rules.controlled pairs
    → list_any (λ action. is_pair_of l.fn.number (settled_on l.fn.rules.rules pairs action.link)) l.rest
    ≡ list_any (λ action. is_pair_of l.fn.number (settled_on l.fn.rules.rules pairs action.link)) l.fn.actions

abbrev pub decreases-actions : goal.decreases-actions
decreases-actions l = length l.rest
