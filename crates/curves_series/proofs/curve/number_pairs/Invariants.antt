use Rattle.std.proofs.Common.{◌≡◌, ◌++◌, ◌≤◌, ◌-◌, drop, map, length}
use Rattle.std.specs.Prelude.{option_map}
use Rattle.curves_series.specs.Curves.{number_pairs}
use Rattle.curves_series.specs.internal.Views.{pair_now, texts}
use Rattle.curves_series.proofs.curve.number_pairs.Given as goal

-- the pairs so far with those of the items from here on are those of all items
abbrev pub invariant-pairing : goal.invariant-pairing
invariant-pairing l =
    (option_map (λ later. map pair_now l.pairs.items ++ later) (number_pairs (drop l.at (texts l.found)))
    ≡ number_pairs (texts l.found))
    × (l.at ≤ length l.found)

abbrev pub decreases-pairing : goal.decreases-pairing
decreases-pairing l = length l.found - l.at
