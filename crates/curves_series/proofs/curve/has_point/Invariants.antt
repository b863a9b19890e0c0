use Rattle.std.proofs.Common.{◌≡◌, drop, true}
use Rattle.curves_series.specs.Curves.{has_point}
use Rattle.curves_series.specs.internal.Views.{lines_now}
use Rattle.curves_series.proofs.curve.has_point.Given as goal

abbrev pub invariant-loop-line : goal.invariant-loop-line
invariant-loop-line l =
    has_point l.is_first (lines_now (drop l.line-index l.lines)) ≡ has_point true (lines_now l.lines)
