-- Blocks of a grid: runs of pieces of each axis, and their cells in a row.
use Rattle.std.specs.Prelude.{◌≡◌, ℕ, zero, suc, ◌+◌, ◌-◌, ◌*◌, ◌≤◌, Bool, ⊤, nat_le}
use Rattle.std.specs.Prelude.{nat_lt, if◌then◌else◌, Option, Some, None, List, [], ◌∷◌, map}
use Rattle.std.specs.List.{flat_map, range_with_len}
use Rattle.block_search.specs.declared.span.Span.{Span}

abbrev pub span_from : ℕ → ℕ → Span
span_from low high = record { low = low; high = high }

abbrev pub low_of : Span → ℕ
low_of span = span.low

-- the number of pieces of a span
abbrev pub width : Span → ℕ
width span = span.high - span.low

abbrev pub is_none : Span → Bool
is_none span = nat_le span.high span.low

abbrev pub is_wide : Span → Bool
is_wide span = nat_lt 1 (width span)

-- the cells of a block: one piece of each axis, where the first axis changes slowest
unfoldable pub cells : List Span → List (List ℕ)
cells [] = [] ∷ []
cells (span ∷ more) =
    flat_map (λ piece. map (λ cell. piece ∷ cell) (cells more))
    (range_with_len span.low (width span))

-- the number of cells, as a product
unfoldable pub size : List Span → ℕ
size [] = 1
size (span ∷ more) = width span * size more

-- the block of one cell
abbrev pub one_piece : ℕ → Span
one_piece piece = span_from piece (piece + 1)

unfoldable pub block_of : List ℕ → List Span
block_of cell = map one_piece cell

-- a block of axes that have so many pieces
unfoldable pub IsWithin : List ℕ → List Span → Type 0
IsWithin [] [] = ⊤
IsWithin [] (span ∷ more) = ⊥
IsWithin (count ∷ axes) [] = ⊥
IsWithin (count ∷ axes) (span ∷ more) = (span.high ≤ count) × IsWithin axes more

-- the block of all pieces
unfoldable pub whole_block : List ℕ → List Span
whole_block axes = map (λ count. span_from 0 count) axes

-- the first axis of more than one piece, counted on from a number
abbrev pub wide_from : ℕ → List Span → Option ℕ
wide_from at [] = None
wide_from at (span ∷ more) = if is_wide span then Some at else wide_from (at + 1) more
