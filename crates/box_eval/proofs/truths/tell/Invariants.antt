use Rattle.std.proofs.Common.{◌≤◌, drop, length}
use Rattle.box_eval.specs.internal.Known.{AreTruthsBy}
use Rattle.box_eval.proofs.truths.tell.Given as goal

-- what the facts from this one on tell
abbrev pub invariant-back : goal.invariant-back
invariant-back l =
    AreTruthsBy (drop l.at l.facts) (length l.initial.truths) l.truths × (l.at ≤ length l.facts)

abbrev pub decreases-back : goal.decreases-back
decreases-back l = l.at
