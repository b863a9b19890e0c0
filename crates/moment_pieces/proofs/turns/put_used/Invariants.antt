use Rattle.std.proofs.Common.{length}
use Rattle.std.specs.Prelude.{nat_le}
use Rattle.moment_pieces.specs.internal.Turns.{used_turn}
use Rattle.moment_pieces.proofs.Gathers.{Pending}
use Rattle.moment_pieces.proofs.turns.put_used.Given as goal

abbrev pub invariant-rules : goal.invariant-rules
invariant-rules l = Pending l.initial.set.keys l.set.keys (used_turn l.rules l.left l.scale) (used_turn l.rules l.used l.scale) (λ m. nat_le m l.scale.limit)

abbrev pub decreases-rules : goal.decreases-rules
decreases-rules l = length l.left
