use Rattle.std.proofs.Common.{◌≡◌, ◌<◌, Ok, drop, length}
use Rattle.table_hulls.specs.internal.Arguments.{part_of, values_of}
use Rattle.table_hulls.proofs.hulls.values_of.Given as goal

-- the values from this point on
abbrev pub invariant-back : goal.invariant-back
invariant-back l =
    (values_of (part_of l.argument) (drop l.at l.points) ≡ Ok l.values) × (l.at < length l.points)

abbrev pub decreases-back : goal.decreases-back
decreases-back l = l.at
