-- Records and pairs by their parts.
use Rattle.std.proofs.Common.{ℕ, List, Option, ℤ}
use Rattle.interval_sets.specs.declared.interval.Interval.{Interval}
use Rattle.rule_types.specs.declared.key.Key.{Key}
use Rattle.block_search.specs.declared.span.Span.{Span}
use Rattle.verdict_meaning.specs.declared.cell.Cell.{Cell}
use Rattle.grid_blocks.specs.declared.grid.KeyCuts.{KeyCuts}
use Rattle.grid_blocks.specs.GridBoxes.{interval_of, piece_count}

abbrev pub cell_with : List (Key × Interval) → Option (ℤ × ℤ) → Cell
cell_with keys moments = record { keys = keys; moments = moments }

abbrev pub count_of : KeyCuts → ℕ
count_of axis = piece_count axis.cuts

abbrev pub entry_of : KeyCuts → Span → Key × Interval
entry_of axis span = (axis.key, interval_of axis.cuts span)
