use Rattle.std.proofs.Common.{arith}
use Rattle.interval_sets.proofs.PieceEdges.{edges_pushed}
use Rattle.interval_sets.proofs.pieces.edges_of.Goals as goal

pub loop-piece-preserved : goal.loop-piece-preserved
loop-piece-preserved c =
    rw (c.in_ok-push-2.ensures.items, c.of_high.ensures.value, c.in_ok-push.ensures.items, c.of_low.ensures.value)
    (edges_pushed c.args.pieces.now c.loop-piece.piece-index c.piece-item.result c.loop-piece.edges.items (omega arith) c.piece-item.is c.loop-piece.invariant)
