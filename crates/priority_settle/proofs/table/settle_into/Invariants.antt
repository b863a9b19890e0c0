use Rattle.std.proofs.Common.{◌≡◌, take}
use Rattle.priority_settle.specs.Settling.{settled_each}
use Rattle.priority_settle.proofs.table.settle_into.Given as goal

abbrev pub invariant-loop-at : goal.invariant-loop-at
invariant-loop-at l =
    l.firsts ≡ settled_each l.fn.rules.rules l.fn.rules.controlled (take l.at-index l.listed)
