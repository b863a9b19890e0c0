-- Where a block of a grid can be cut.
use Rattle.std.specs.Prelude.{◌≡◌, ℕ, ◌≤◌, true, Some, List, length, slice_get}
use Rattle.block_search.specs.declared.span.Span.{Span}
use Rattle.block_search.specs.Trees.{is_later_of, is_point_of}
use Rattle.grid_blocks.specs.declared.grid.Grid.{Grid}
use Rattle.grid_blocks.specs.declared.grid.KeyCuts.{KeyCuts}
use Rattle.grid_blocks.specs.declared.grid.MomentPieces.{MomentPieces}
use Rattle.grid_blocks.specs.GridBoxes.{piece_count}

-- the run of a key, the axis of some number, can be cut at a piece
pub record IsKeyCut (grid : Grid) (block : List Span) (number : ℕ) (axis : KeyCuts) (span : Span)
    (piece : ℕ) : Type 0 where
  pub axis_is : slice_get grid.keys number ≡ Some axis
  pub span_is : slice_get block number ≡ Some span
  pub within : span.high ≤ piece_count axis.cuts
  pub point : is_point_of span piece ≡ true

-- the run of the moments can be cut before a piece
pub record IsMomentCut (grid : Grid) (block : List Span) (pieces : MomentPieces) (span : Span)
    (piece : ℕ) : Type 0 where
  pub pieces_are : grid.moments ≡ Some pieces
  pub span_is : slice_get block (length grid.keys) ≡ Some span
  pub within : span.high ≤ length pieces.firsts
  pub later : is_later_of span piece ≡ true
