use Rattle.std.proofs.Common.{◌≡◌, take}
use Rattle.grid_blocks.specs.GridBoxes.{keys_of}
use Rattle.grid_blocks.proofs.boxes.entries.Given as goal

abbrev pub invariant-loop-number : goal.invariant-loop-number
invariant-loop-number l = l.entries.items ≡ keys_of (take l.number l.axes) l.block
