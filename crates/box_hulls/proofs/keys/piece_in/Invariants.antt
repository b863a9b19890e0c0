use Rattle.std.proofs.Common.{◌≡◌, length}
use Rattle.verdict_meaning.specs.Reaches.{piece_in}
use Rattle.box_hulls.proofs.keys.piece_in.Given as goal

-- the first entry with the key among the rest is the first one of all
abbrev pub invariant-entries : goal.invariant-entries
invariant-entries l = piece_in l.fn.key l.rest ≡ piece_in l.fn.key l.fn.keys

abbrev pub decreases-entries : goal.decreases-entries
decreases-entries l = length l.rest
