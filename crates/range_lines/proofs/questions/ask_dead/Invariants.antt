use Rattle.std.proofs.Common.{◌≡◌, ◌++◌, drop}
use Rattle.range_lines.specs.Questions.{dead_questions}
use Rattle.range_lines.proofs.questions.ask_dead.Given as goal

abbrev pub invariant-loop-index : goal.invariant-loop-index
invariant-loop-index l =
    l.questions ++ dead_questions l.index (drop l.index l.rules)
    ≡ l.initial.questions ++ dead_questions 0 l.rules
