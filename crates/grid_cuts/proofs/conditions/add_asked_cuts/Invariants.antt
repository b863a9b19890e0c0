use Rattle.std.proofs.Common.{take}
use Rattle.grid_cuts.specs.internal.Additions.{Adds, asked_cuts, within}
use Rattle.grid_cuts.proofs.conditions.add_asked_cuts.Given as goal

-- the cuts of the rules so far
abbrev pub invariant-loop-number : goal.invariant-loop-number
invariant-loop-number l =
    Adds l.initial.list.items l.list.items
    (within l.wanted (asked_cuts l.rules l.wanted (take l.number-index l.asked)))
