use Rattle.std.proofs.Common.{◌≡◌, drop, map}
use Rattle.curves_series.specs.Pairs.{last_x}
use Rattle.curves_series.specs.internal.Views.{pair_now}
use Rattle.curves_series.proofs.pair.last_x.Given as goal

abbrev pub invariant-loop-pair : goal.invariant-loop-pair
invariant-loop-pair l =
    last_x l.last (map pair_now (drop l.pair-index l.pairs))
    ≡ last_x l.before (map pair_now l.pairs)
