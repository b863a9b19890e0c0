use Rattle.std.proofs.Common.{◌≡◌, ◌≤◌, ◌&&◌, false, length}
use Rattle.std.specs.Prelude.{slice_get}
use Rattle.std.specs.List.{list_any, range_with_len}
use Rattle.verdict_meaning.specs.Questions.{is_asked}
use Rattle.question_boxes.specs.internal.KeyLists.{rule_has_series}
use Rattle.question_boxes.proofs.order.has_series.Given as goal

abbrev pub invariant-loop-number : goal.invariant-loop-number
invariant-loop-number l =
    (list_any
    (λ n. is_asked l.rules l.question n && rule_has_series (slice_get l.rules.rules n))
    (range_with_len 0 l.number) ≡ false)
    × (l.number ≤ length l.rules.rules)
