use Rattle.std.proofs.Common.{◌≡◌, drop, map}
use Rattle.curves_series.specs.Pairs.{has_bad_pair}
use Rattle.curves_series.specs.internal.Views.{pair_now}
use Rattle.curves_series.proofs.pair.has_bad_pair.Given as goal

-- the pairs from here on, behind the last x, decide for all
abbrev pub invariant-loop-pair : goal.invariant-loop-pair
invariant-loop-pair l =
    has_bad_pair l.last (map pair_now (drop l.pair-index l.pairs))
    ≡ has_bad_pair l.before (map pair_now l.pairs)
