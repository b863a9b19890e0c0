use Rattle.std.proofs.Common.{length}
use Rattle.interval_sets.proofs.Pairing.{Pairing}
use Rattle.interval_sets.proofs.pieces.pieces_of.Given as goal

abbrev pub invariant-pairing : goal.invariant-pairing
invariant-pairing l = Pairing l.fn.edges l.rest l.pieces.items

abbrev pub decreases-pairing : goal.decreases-pairing
decreases-pairing l = length l.rest
