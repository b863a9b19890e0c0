use Rattle.std.proofs.Common.{◌≡◌, ◌++◌, drop, map}
use Rattle.curves_series.specs.Pairs.{points_of}
use Rattle.curves_series.specs.internal.Views.{pair_now}
use Rattle.curves_series.proofs.pair.push_points.Given as goal

abbrev pub invariant-loop-pair : goal.invariant-loop-pair
invariant-loop-pair l =
    l.points.items ++ points_of (map pair_now (drop l.pair-index l.pairs))
    ≡ l.fn.points.items ++ points_of (map pair_now l.pairs)
