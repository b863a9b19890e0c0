use Rattle.std.proofs.Common.{◌≡◌}
use Rattle.std.specs.Prelude.{filter}
use Rattle.std.specs.List.{range_with_len}
use Rattle.verdict_meaning.specs.Questions.{is_asked}
use Rattle.grid_cuts.proofs.asked.asked_numbers.Given as goal

abbrev pub invariant-loop-number : goal.invariant-loop-number
invariant-loop-number l =
    l.numbers.items ≡ filter (is_asked l.rules l.question) (range_with_len 0 l.number)
