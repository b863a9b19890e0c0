use Rattle.std.proofs.Common.{◌≡◌, ◌++◌, drop}
use Rattle.range_lines.specs.Questions.{conflicts_among}
use Rattle.range_lines.proofs.questions.ask_conflicts.Given as goal

abbrev pub invariant-loop-index : goal.invariant-loop-index
invariant-loop-index l =
    l.questions ++ conflicts_among l.index (drop l.index l.sets)
    ≡ l.initial.questions ++ conflicts_among 0 l.sets
