-- What is judged of blocks and cells.
use Rattle.std.specs.Prelude.{ℕ, Bool, not, List}
use Rattle.block_search.specs.declared.span.Span.{Span}
use Rattle.block_search.specs.Blocks.{block_of}

-- how many pieces each axis has, which axes are of moments, which blocks are shown and with which
-- facts, and which cells have the event
pub record Judgement : Type 0 where
  pub axes : List ℕ
  pub has_moments : ℕ → Bool
  pub shown : List Span → Bool
  pub accepts : List Span → List (ℕ × Bool) → Bool
  pub event : List ℕ → Bool

-- whether a cell is not shown
abbrev pub is_open : Judgement → List ℕ → Bool
is_open judged cell = not (judged.shown (block_of cell))
