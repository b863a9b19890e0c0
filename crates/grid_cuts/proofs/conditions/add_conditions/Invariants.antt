use Rattle.std.proofs.Common.{take}
use Rattle.std.specs.List.{flat_map}
use Rattle.verdict_meaning.specs.Grids.{condition_cuts}
use Rattle.grid_cuts.specs.internal.Additions.{Adds, within}
use Rattle.grid_cuts.proofs.conditions.add_conditions.Given as goal

-- the cuts of the conditions so far
abbrev pub invariant-loop-condition : goal.invariant-loop-condition
invariant-loop-condition l =
    Adds l.initial.list.items l.list.items
    (within l.wanted
    (flat_map (condition_cuts l.names l.wanted.step l.wanted.key)
    (take l.condition-index l.conditions)))
