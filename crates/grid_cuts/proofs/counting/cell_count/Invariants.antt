use Rattle.std.proofs.Common.{◌≡◌, ◌*◌, take}
use Rattle.verdict_meaning.specs.Verdicts.{written_count}
use Rattle.grid_cuts.specs.internal.Gridded.{piece_product}
use Rattle.grid_cuts.proofs.counting.cell_count.Given as goal

-- the product so far
abbrev pub invariant-loop-axis : goal.invariant-loop-axis
invariant-loop-axis l =
    l.count ≡ written_count (piece_product (take l.axis-index l.axes) * l.fn.moments)
