use Rattle.std.proofs.Common.{◌≡◌, ◌≤◌, length}
use Rattle.std.specs.Prelude.{filter, filter_map, slice_get}
use Rattle.std.specs.List.{range_with_len}
use Rattle.rule_types.specs.Reading.{keys_read}
use Rattle.verdict_meaning.specs.Questions.{is_asked}
use Rattle.question_boxes.proofs.rule_reads.keys_read.Given as goal

-- what the question's rules so far read
abbrev pub invariant-loop-number : goal.invariant-loop-number
invariant-loop-number l =
    (l.list.keys.items
    ≡ keys_read l.rules.names
    (filter_map (slice_get l.rules.rules)
    (filter (is_asked l.rules l.question) (range_with_len 0 l.number))))
    × (l.number ≤ length l.rules.rules)
