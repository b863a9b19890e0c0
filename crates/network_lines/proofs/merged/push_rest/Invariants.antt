use Rattle.std.proofs.Common.{◌≡◌, ◌++◌, drop}
use Rattle.network_lines.specs.internal.Views.{lines_now}
use Rattle.network_lines.proofs.merged.push_rest.Given as goal

abbrev pub invariant-loop-index : goal.invariant-loop-index
invariant-loop-index l =
    lines_now l.all.items ++ lines_now (drop l.index l.others)
    ≡ lines_now l.initial.all.items ++ lines_now (drop l.at l.others)
