use Rattle.std.proofs.Common.{◌≡◌, ◌++◌, map, take, drop}
use Rattle.std.specs.Option.{option_map}
use Rattle.table_plan.specs.Pieces.{piece}
use Rattle.table_run.specs.Planned.{value_read}
use Rattle.table_run.proofs.pieces.read_pieces.Given as goal

abbrev pub invariant-loop-at : goal.invariant-loop-at
invariant-loop-at l =
    l.pieces ≡ map (λ column. option_map (piece column.cuts) (value_read l.rules l.state column.side)) (take l.at l.columns)
    ++ drop l.at l.fn.pieces
