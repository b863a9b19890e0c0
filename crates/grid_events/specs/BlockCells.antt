-- The cells of a block.
use Rattle.std.specs.Prelude.{ℕ, ◌≤◌, ◌<◌, ⊤, List, [], ◌∷◌}
use Rattle.block_search.specs.declared.span.Span.{Span}

-- a piece is one of a run
pub record IsPieceOf (span : Span) (piece : ℕ) : Type 0 where
  pub from_low : span.low ≤ piece
  pub below_high : piece < span.high

-- a cell has one piece of each run of a block
unfoldable pub IsCellOf : List Span → List ℕ → Type 0
IsCellOf [] [] = ⊤
IsCellOf [] (piece ∷ cell) = ⊥
IsCellOf (span ∷ block) [] = ⊥
IsCellOf (span ∷ block) (piece ∷ cell) = IsPieceOf span piece × IsCellOf block cell
