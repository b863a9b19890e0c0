use Rattle.std.proofs.Common.{◌≡◌, ◌++◌}
use Rattle.report_lines.specs.Words.{words_of}
use Rattle.report_lines.specs.internal.Views.{texts}
use Rattle.report_lines.proofs.line.words_of.Given as goal

-- the words so far, and those of what is left
abbrev pub invariant-loop : goal.invariant-loop
invariant-loop l = texts l.words.items ++ words_of l.left ≡ words_of l.line
