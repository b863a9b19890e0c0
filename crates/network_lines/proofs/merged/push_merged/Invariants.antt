use Rattle.std.proofs.Common.{◌≡◌, ◌++◌, ◌≤◌, drop, length, map}
use Rattle.inp_text.specs.Merging.{in_section, merged}
use Rattle.network_lines.specs.internal.Views.{lines_now}
use Rattle.network_lines.proofs.merged.push_merged.Given as goal

abbrev pub invariant-loop-line : goal.invariant-loop-line
invariant-loop-line l =
    (lines_now l.all.items
    ++ merged (map (in_section l.section) (drop l.line-index l.first)) (lines_now (drop l.at l.others))
    ≡ lines_now l.initial.all.items
    ++ merged (map (in_section l.section) l.first) (lines_now l.others))
    × l.at ≤ length l.others
