use Rattle.std.proofs.Common.{◌≡◌, take}
use Rattle.interval_sets.specs.internal.Edges.{edges_of}
use Rattle.interval_sets.proofs.pieces.edges_of.Given as goal

abbrev pub invariant-loop-piece : goal.invariant-loop-piece
invariant-loop-piece l = l.edges.items ≡ edges_of (take l.piece-index l.pieces)
