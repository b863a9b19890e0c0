use Rattle.std.proofs.Common.{◌≡◌, ◌-◌, ◌≤◌, ◌∷◌}
use Rattle.moment_pieces.specs.Pieces.{later_firsts}
use Rattle.moment_pieces.specs.internal.Spans.{begins_at}
use Rattle.moment_pieces.proofs.piece_lists.firsts_of.Given as goal

abbrev pub invariant-pieces : goal.invariant-pieces
invariant-pieces l = (l.span.first ≤ l.at) × (l.at ≤ l.span.last)
    × (l.firsts.items ≡ l.span.from ∷ later_firsts (begins_at l.starts.daily.items l.starts.singles.items l.span.midnight) l.span.from (l.at - l.span.first))

abbrev pub decreases-pieces : goal.decreases-pieces
decreases-pieces l = l.span.last - l.at
