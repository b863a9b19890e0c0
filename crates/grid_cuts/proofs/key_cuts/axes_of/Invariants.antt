use Rattle.std.proofs.Common.{take}
use Rattle.grid_cuts.specs.internal.Gridded.{AreAxesOf}
use Rattle.grid_cuts.proofs.key_cuts.axes_of.Given as goal

-- the keys so far with their cuts
abbrev pub invariant-loop-entry : goal.invariant-loop-entry
invariant-loop-entry l =
    AreAxesOf l.rules l.question (take l.entry-index l.entries) l.axes.items
