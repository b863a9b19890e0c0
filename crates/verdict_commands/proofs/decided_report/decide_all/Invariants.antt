use Rattle.std.proofs.Common.{drop}
use Rattle.verdict_commands.specs.internal.Drafts.{LacksEntries}
use Rattle.verdict_commands.proofs.decided_report.decide_all.Given as goal

-- the draft lacks the entries of the questions from here on
abbrev pub invariant-loop-question : goal.invariant-loop-question
invariant-loop-question l =
    LacksEntries l.prepared (drop l.question-index l.question-items)
    l.draft.text.items l.draft.refuted l.draft.undecided
