use Rattle.std.proofs.Common.{◌≡◌, None, drop, true}
use Rattle.curves_series.specs.Pairs.{before_later}
use Rattle.curves_series.specs.Curves.{curve_lines}
use Rattle.curves_series.specs.internal.Views.{lines_now}
use Rattle.curves_series.proofs.curve.curve_lines.Given as goal

-- the points so far with those of the lines from here on are those of all lines
abbrev pub invariant-loop-line : goal.invariant-loop-line
invariant-loop-line l =
    before_later l.so_far.points.items
    (curve_lines l.name l.is_first l.pointed l.so_far.last (lines_now (drop l.line-index l.lines)))
    ≡ curve_lines l.name true l.pointed None (lines_now l.lines)
