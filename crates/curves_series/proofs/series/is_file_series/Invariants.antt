use Rattle.std.proofs.Common.{◌≡◌, drop}
use Rattle.std.specs.List.{list_any}
use Rattle.curves_series.specs.Series.{names_file}
use Rattle.curves_series.specs.internal.Views.{lines_now}
use Rattle.curves_series.proofs.series.is_file_series.Given as goal

abbrev pub invariant-loop-line : goal.invariant-loop-line
invariant-loop-line l =
    list_any names_file (lines_now (drop l.line-index l.lines)) ≡ list_any names_file (lines_now l.lines)
