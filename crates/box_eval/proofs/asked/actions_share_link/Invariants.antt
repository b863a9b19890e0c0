use Rattle.std.proofs.Common.{◌≡◌, length}
use Rattle.std.specs.List.{list_any}
use Rattle.rule_meaning.specs.SomeRules.{rule_acts_on}
use Rattle.box_eval.proofs.asked.actions_share_link.Given as goal

abbrev pub invariant-actions : goal.invariant-actions
invariant-actions l =
    list_any (λ action. rule_acts_on action.link l.fn.rule) l.rest
    ≡ list_any (λ action. rule_acts_on action.link l.fn.rule) l.fn.actions

abbrev pub decreases-actions : goal.decreases-actions
decreases-actions l = length l.rest
