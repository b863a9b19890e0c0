use Rattle.std.proofs.Common.{◌≡◌, None, drop}
use Rattle.curves_series.specs.Series.{series_lines, points_before, IsAxis}
use Rattle.curves_series.specs.declared.axis.Axis.TheVariants.{Open}
use Rattle.curves_series.specs.internal.Views.{lines_now}
use Rattle.curves_series.proofs.series.series_lines.Given as goal

-- the points so far with those of the lines from here on are those of all lines
abbrev pub invariant-loop-line : goal.invariant-loop-line
invariant-loop-line l =
    (points_before l.series.so_far.points.items
    (series_lines l.name l.series.axis l.series.so_far.last (lines_now (drop l.line-index l.lines)))
    ≡ series_lines l.name Open None (lines_now l.lines))
    × IsAxis l.series.axis
