use Rattle.std.proofs.Common.{◌≡◌, ◌≤◌, drop, length, map}
use Rattle.verdict_meaning.specs.Grids.{rising}
use Rattle.grid_cuts.specs.internal.NumberOrder.{number_of}
use Rattle.grid_cuts.proofs.rising_numbers.rising.Given as goal

-- the numbers from this one on
abbrev pub invariant-back : goal.invariant-back
invariant-back l =
    (map number_of l.set.keys ≡ rising (drop l.at l.numbers)) × (l.at ≤ length l.numbers)

abbrev pub decreases-back : goal.decreases-back
decreases-back l = l.at
