use Rattle.std.proofs.Common.{◌≡◌, ◌≤◌, map, length}
use Rattle.std.specs.List.{range_with_len}
use Rattle.box_eval.specs.internal.Known.{asked_truth}
use Rattle.box_eval.proofs.truths.truths_in.Given as goal

abbrev pub invariant-loop-number : goal.invariant-loop-number
invariant-loop-number l =
    (l.truths.items
    ≡ map (asked_truth l.rules l.question l.cell) (range_with_len 0 l.number))
    × (l.number ≤ length l.rules.rules)
