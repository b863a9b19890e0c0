use Rattle.std.proofs.Common.{◌≡◌, length}
use Rattle.std.specs.List.{list_any}
use Rattle.verdict_meaning.specs.Questions.{is_series}
use Rattle.question_boxes.proofs.order.actions_have_series.Given as goal

abbrev pub invariant-actions : goal.invariant-actions
invariant-actions l =
    list_any (λ action. is_series action.what) l.rest
    ≡ list_any (λ action. is_series action.what) l.fn.actions

abbrev pub decreases-actions : goal.decreases-actions
decreases-actions l = length l.rest
