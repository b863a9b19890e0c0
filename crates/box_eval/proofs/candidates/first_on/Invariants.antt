use Rattle.std.proofs.Common.{◌≡◌, length}
use Rattle.verdict_meaning.specs.Events.{first_on}
use Rattle.box_eval.proofs.candidates.first_on.Given as goal

-- the first action on the link among the rest is the first one of all
abbrev pub invariant-actions : goal.invariant-actions
invariant-actions l = first_on l.fn.link l.rest ≡ first_on l.fn.link l.fn.actions

abbrev pub decreases-actions : goal.decreases-actions
decreases-actions l = length l.rest
