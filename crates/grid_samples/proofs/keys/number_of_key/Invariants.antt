use Rattle.std.proofs.Common.{◌≡◌, length}
use Rattle.verdict_meaning.specs.Grids.{number_of_key}
use Rattle.grid_samples.proofs.keys.number_of_key.Given as goal

-- the first entry with the key among the rest is the first one of all
abbrev pub invariant-entries : goal.invariant-entries
invariant-entries l = number_of_key l.fn.key l.rest ≡ number_of_key l.fn.key l.fn.numbers

abbrev pub decreases-entries : goal.decreases-entries
decreases-entries l = length l.rest
