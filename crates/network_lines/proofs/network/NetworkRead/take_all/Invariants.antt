use Rattle.std.proofs.Common.{◌≡◌, drop}
use Rattle.std.specs.Option.{option_or}
use Rattle.network_lines.specs.Objects.{network_from, objects_refusal}
use Rattle.network_lines.specs.internal.Views.{lines_now}
use Rattle.network_lines.proofs.network.NetworkRead.take_all.Given as goal

-- the lines from here on give what all lines give
abbrev pub invariant-loop-line : goal.invariant-loop-line
invariant-loop-line l =
    (network_from l.self.network (lines_now (drop l.line-index l.lines))
    ≡ network_from l.initial.self.network (lines_now l.lines))
    × (option_or l.self.refusal
    (objects_refusal l.self.network (lines_now (drop l.line-index l.lines)))
    ≡ option_or l.initial.self.refusal
    (objects_refusal l.initial.self.network (lines_now l.lines)))
