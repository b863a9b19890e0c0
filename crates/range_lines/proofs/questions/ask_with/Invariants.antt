use Rattle.std.proofs.Common.{◌≡◌, ◌≤◌, ◌++◌, drop, length}
use Rattle.range_lines.specs.Questions.{conflicts_with}
use Rattle.range_lines.proofs.questions.ask_with.Given as goal

abbrev pub invariant-loop-number : goal.invariant-loop-number
invariant-loop-number l =
    (l.number ≤ length l.sets)
    × (l.questions ++ conflicts_with l.rule l.links l.number (drop l.number l.sets)
    ≡ l.initial.questions ++ conflicts_with l.rule l.links l.from (drop l.from l.sets))
