use Rattle.std.proofs.Common.{◌≡◌, take, map}
use Rattle.std.specs.List.{list_any}
use Rattle.curves_series.specs.Series.{names_file}
use Rattle.curves_series.specs.internal.Views.{lines_now}
use Rattle.curves_series.proofs.names.file_marks.Given as goal

abbrev pub invariant-loop-table : goal.invariant-loop-table
invariant-loop-table l =
    l.marks.items ≡ map (λ table. list_any names_file (lines_now table.lines.items)) (take l.table-index l.tables)
