use Rattle.std.proofs.Common.{◌≡◌, ◌≤◌, drop, length, map}
use Rattle.std.specs.Prelude.{vec_len}
use Rattle.verdict_meaning.specs.Grids.{number_of_key}
use Rattle.grid_samples.proofs.keys.numbers_of_keys.Given as goal

-- the numbers from this one on stand at their places
abbrev pub invariant-back : goal.invariant-back
invariant-back l =
    (l.list.items ≡ map (λ key. number_of_key key (drop l.at l.numbers)) l.keys)
    × (l.at ≤ length l.numbers) × (vec_len l.list ≡ length l.keys)

abbrev pub decreases-back : goal.decreases-back
decreases-back l = l.at
