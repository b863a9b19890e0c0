use Rattle.std.proofs.Common.{take}
use Rattle.std.specs.List.{AllZip}
use Rattle.table_run.specs.internal.Sources.{IsSource}
use Rattle.table_run.proofs.sources.sources.Given as goal

abbrev pub invariant-loop-column : goal.invariant-loop-column
invariant-loop-column l =
    AllZip (λ column source. IsSource l.rules l.values.columns column.side source) (take l.column-index l.columns) l.sources.items
