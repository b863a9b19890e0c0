use Rattle.std.proofs.Common.{◌≡◌, ◌==◌, length}
use Rattle.std.specs.List.{list_any}
use Rattle.box_eval.proofs.asked.acts_on.Given as goal

abbrev pub invariant-actions : goal.invariant-actions
invariant-actions l =
    list_any (λ action. action.link == l.fn.link) l.rest
    ≡ list_any (λ action. action.link == l.fn.link) l.fn.actions

abbrev pub decreases-actions : goal.decreases-actions
decreases-actions l = length l.rest
