use Rattle.std.proofs.Common.{◌≡◌, ◌≤◌, ℕ, ◌&&◌, length}
use Rattle.std.specs.List.{list_any, range_with_len}
use Rattle.verdict_meaning.specs.Shown.{rule_precedes, surely_acts}
use Rattle.box_eval.specs.internal.Known.{known_of}
use Rattle.box_eval.specs.internal.Preceding.{comes_after}
use Rattle.box_eval.proofs.ranks.first_acting.Given as goal

-- the first one of the rules so far precedes what one of them that surely acts precedes
abbrev pub invariant-loop-number : goal.invariant-loop-number
invariant-loop-number l =
    ((other : ℕ) → comes_after l.rules l.first other
    ≡ list_any
    (λ one. rule_precedes l.rules one other && surely_acts l.rules (known_of l.truths) one l.link)
    (range_with_len 0 l.number))
    × (l.number ≤ length l.rules.rules)
