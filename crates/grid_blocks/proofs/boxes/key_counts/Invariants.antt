use Rattle.std.proofs.Common.{◌≡◌, map, take}
use Rattle.grid_blocks.specs.GridBoxes.{piece_count}
use Rattle.grid_blocks.proofs.boxes.key_counts.Given as goal

abbrev pub invariant-loop-axis : goal.invariant-loop-axis
invariant-loop-axis l =
    l.counts.items ≡ map (λ axis. piece_count axis.cuts) (take l.axis-index l.axes)
