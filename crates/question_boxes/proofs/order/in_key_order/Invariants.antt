use Rattle.std.proofs.Common.{◌≡◌, ◌≤◌, drop, length}
use Rattle.verdict_meaning.specs.Questions.{in_key_order}
use Rattle.question_boxes.proofs.order.in_key_order.Given as goal

-- the keys from this one on
abbrev pub invariant-back : goal.invariant-back
invariant-back l = (l.set.keys ≡ in_key_order (drop l.at l.keys)) × (l.at ≤ length l.keys)

abbrev pub decreases-back : goal.decreases-back
decreases-back l = l.at
