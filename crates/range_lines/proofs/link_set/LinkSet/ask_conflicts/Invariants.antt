use Rattle.std.proofs.Common.{◌≡◌, ◌++◌, map}
use Rattle.verdict_meaning.specs.declared.question.Question.TheVariants.{Conflict}
use Rattle.range_lines.specs.Questions.{shared_links}
use Rattle.range_lines.proofs.link_set.LinkSet.ask_conflicts.Given as goal

abbrev pub invariant-loop-link : goal.invariant-loop-link
invariant-loop-link l =
    l.questions ++ map (Conflict l.first l.second) (shared_links l.link-iterator l.others)
    ≡ l.initial.questions ++ map (Conflict l.first l.second) (shared_links l.self l.others)
