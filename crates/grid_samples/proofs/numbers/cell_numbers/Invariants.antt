use Rattle.std.proofs.Common.{◌≡◌, length}
use Rattle.verdict_meaning.specs.Grids.{cell_numbers}
use Rattle.grid_samples.proofs.NumberSteps.{Behind}
use Rattle.grid_samples.proofs.numbers.cell_numbers.Given as goal

-- the numbers so far and those of the rest are all
abbrev pub invariant-entries : goal.invariant-entries
invariant-entries l = cell_numbers l.fn.keys ≡ Behind l.numbers.items l.rest

abbrev pub decreases-entries : goal.decreases-entries
decreases-entries l = length l.rest
