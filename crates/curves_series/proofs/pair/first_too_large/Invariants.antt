use Rattle.std.proofs.Common.{◌≡◌, drop, map}
use Rattle.curves_series.specs.Pairs.{first_too_large}
use Rattle.curves_series.specs.internal.Views.{pair_now}
use Rattle.curves_series.proofs.pair.first_too_large.Given as goal

abbrev pub invariant-loop-pair : goal.invariant-loop-pair
invariant-loop-pair l =
    first_too_large (map pair_now (drop l.pair-index l.pairs))
    ≡ first_too_large (map pair_now l.pairs)
