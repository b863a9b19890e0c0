use Rattle.std.proofs.Common.{◌≡◌, List, ◌++◌, drop}
use Rattle.inp_text.specs.Merging.{SectionLine, merged_onto}
use Rattle.network_lines.specs.internal.Views.{lines_now}
use Rattle.network_lines.proofs.merged.push_before.Given as goal

-- what comes from here on, behind what is added so far, is what came at first
abbrev pub invariant-loop-index : goal.invariant-loop-index
invariant-loop-index l =
    (line : SectionLine) (f : List SectionLine → List SectionLine) → line.line.number ≡ l.number
    → lines_now l.all.items ++ merged_onto line f (lines_now (drop l.index l.others))
    ≡ lines_now l.initial.all.items ++ merged_onto line f (lines_now (drop l.at l.others))
