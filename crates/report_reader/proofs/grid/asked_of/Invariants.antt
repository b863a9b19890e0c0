use Rattle.std.proofs.Common.{◌≡◌, map}
use Rattle.std.specs.List.{range_with_len}
use Rattle.verdict_meaning.specs.Questions.{is_asked}
use Rattle.report_reader.proofs.grid.asked_of.Given as goal

abbrev pub invariant-loop-number : goal.invariant-loop-number
invariant-loop-number l =
    l.asked ≡ map (is_asked l.rules l.question) (range_with_len 0 l.number)
