use Rattle.std.proofs.Common.{length}
use Rattle.std.specs.Prelude.{nat_le, All}
use Rattle.std.specs.List.{list_any}
use Rattle.moment_pieces.specs.internal.Turns.{condition_turns, HalfStepFits}
use Rattle.moment_pieces.proofs.Gathers.{Pending}
use Rattle.moment_pieces.proofs.turns.put_conditions.Given as goal

abbrev pub invariant-conditions : goal.invariant-conditions
invariant-conditions l =
    Pending l.initial.set.keys l.set.keys (λ m. list_any (condition_turns l.names l.scale m) l.left) (λ m. list_any (condition_turns l.names l.scale m) l.conditions) (λ m. nat_le m l.scale.limit)
    × All HalfStepFits l.left

abbrev pub decreases-conditions : goal.decreases-conditions
decreases-conditions l = length l.left
