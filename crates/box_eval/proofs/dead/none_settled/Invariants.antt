use Rattle.std.proofs.Common.{◌≡◌, ◌||◌, length}
use Rattle.std.specs.List.{list_all}
use Rattle.verdict_meaning.specs.Shown.{is_preceded, is_unlisted}
use Rattle.box_eval.specs.internal.Known.{known_of}
use Rattle.box_eval.proofs.dead.none_settled.Given as goal

-- all actions are beaten where the rest are
abbrev pub invariant-actions : goal.invariant-actions
invariant-actions l =
    list_all
    (λ action.
    is_unlisted (known_of l.fn.truths) l.fn.number l.fn.branch
    || is_preceded l.fn.rules (known_of l.fn.truths) l.fn.number action.link) l.rest
    ≡ list_all
    (λ action.
    is_unlisted (known_of l.fn.truths) l.fn.number l.fn.branch
    || is_preceded l.fn.rules (known_of l.fn.truths) l.fn.number action.link) l.fn.actions

abbrev pub decreases-actions : goal.decreases-actions
decreases-actions l = length l.rest
