-- The cells of a block have a piece of each of its runs, and the cells of the block of all pieces
-- are all that are within the axes.
use Rattle.std.proofs.Common.{◌≡◌, ◌⊎◌, inl, inr, ℕ, zero, suc, ◌+◌, ◌-◌, ◌≤◌, ◌<◌, Bool, Some}
use Rattle.std.proofs.Common.{List, [], ◌∷◌, map}
use Rattle.std.proofs.Common.{subst, arith}
use Rattle.std.proofs.lemmas.Bool.{cases_order}
use Rattle.std.proofs.lemmas.List.Elements.{All-from_recursion}
use Rattle.std.specs.List.{AllByRecursion, find, range_with_len}
use Rattle.std.specs.Prelude.{All}
use Rattle.block_search.specs.declared.span.Span.{Span}
use Rattle.block_search.specs.Blocks.{block_of, cells, IsWithin, whole_block, width}
use Rattle.grid_events.specs.BlockCells.{IsCellOf, IsPieceOf}
use Rattle.grid_events.proofs.Lists.{each_by, each_flat, each_map, flat_each, map_each, of_found}

-- ---- numbers in a row
record IsAmong (low count number : ℕ) : Type 0 where
  from_low : low ≤ number
  below : number < low + count

among_next : (low count number : ℕ) → IsAmong (low + 1) count number
    → IsAmong low (suc count) number
among_next low count number h =
    let a = h.from_low in
    let b = h.below in
    record { from_low = omega (arith, a); below = omega (arith, b) }

each_among : (low count : ℕ) → AllByRecursion (IsAmong low count) (range_with_len low count)
each_among low zero = tt
each_among low (suc count) = (
  record { from_low = omega arith; below = omega arith },
  each_by (IsAmong (low + 1) count) (IsAmong low (suc count)) (among_next low count)
      (range_with_len (low + 1) count) (each_among (low + 1) count),
)

of_number_by : (P : ℕ → Type 0) (low number : ℕ)
    → (low ≡ number) ⊎ ((low < number) ⊎ (number < low)) → low ≤ number → P low
    → (low + 1 ≤ number → P number) → P number
of_number_by P low number (inl same) h first later = subst P same first
of_number_by P low number (inr (inl above)) h first later = later (omega (arith, above))
of_number_by P low number (inr (inr below)) h first later = absurd (omega (arith, h, below))

of_number : (P : ℕ → Type 0) (low count number : ℕ)
    → AllByRecursion P (range_with_len low count) → low ≤ number → number < low + count → P number
of_number P low zero number each h k = absurd (omega (arith, h, k))
of_number P low (suc count) number each h k =
    of_number_by P low number (cases_order low number) h each.0
    (λ above. of_number P (low + 1) count number each.1 above (omega (arith, k)))

-- ---- the cells of a block
piece_of : (span : Span) (piece : ℕ) → IsAmong span.low (width span) piece → IsPieceOf span piece
piece_of span piece h =
    let a = h.from_low in
    let b = h.below in
    record { from_low = a; below_high = omega (arith, a, b) }

pub each_cell : (block : List Span) → AllByRecursion (IsCellOf block) (cells block)
unfolding cells IsCellOf
each_cell [] = (tt, tt)
each_cell (span ∷ block) =
    let later = each_cell block in
    each_flat (IsCellOf (span ∷ block)) (λ piece. map (λ cell. piece ∷ cell) (cells block))
    (range_with_len span.low (width span))
    (each_by (IsAmong span.low (width span))
    (λ piece. AllByRecursion (IsCellOf (span ∷ block)) (map (λ cell. piece ∷ cell) (cells block)))
    (λ piece among.
    each_map (IsCellOf (span ∷ block)) (λ cell. piece ∷ cell) (cells block)
    (each_by (IsCellOf block) (λ cell. IsCellOf (span ∷ block) (piece ∷ cell))
    (λ cell is. (piece_of span piece among, is)) (cells block) later))
    (range_with_len span.low (width span)) (each_among span.low (width span)))

pub cells_are : (block : List Span) → All (IsCellOf block) (cells block)
cells_are block = All-from_recursion (IsCellOf block) (cells block) (each_cell block)

-- ---- the cells of all pieces
pub of_cell : (P : List ℕ → Type 0) (axes cell : List ℕ)
    → AllByRecursion P (cells (whole_block axes)) → IsWithin axes (block_of cell) → P cell
unfolding cells whole_block block_of IsWithin
of_cell P [] [] each within = each.0
of_cell P [] (piece ∷ cell) each within = absurd within
of_cell P (count ∷ axes) [] each within = absurd within
of_cell P (count ∷ axes) (piece ∷ cell) each within =
    let front = λ (number : ℕ). map (λ cell. number ∷ cell) (cells (whole_block axes)) in
    let below = within.0 in
    let here =
    of_number (λ number. AllByRecursion P (front number)) 0 (count - 0) piece
    (flat_each P front (range_with_len 0 (count - 0)) each) (omega arith)
    (omega (arith, below)) in
    of_cell (λ later. P (piece ∷ later)) axes cell
    (map_each P (λ later. piece ∷ later) (cells (whole_block axes)) here) within.1

-- a cell of a block within the axes is within them
pub cell_within : (axes : List ℕ) (block : List Span) (cell : List ℕ) → IsWithin axes block
    → IsCellOf block cell → IsWithin axes (block_of cell)
unfolding block_of IsWithin IsCellOf
cell_within [] [] [] within is = tt
cell_within [] [] (piece ∷ cell) within is = absurd is
cell_within [] (span ∷ block) cell within is = absurd within
cell_within (count ∷ axes) [] cell within is = absurd within
cell_within (count ∷ axes) (span ∷ block) [] within is = absurd is
cell_within (count ∷ axes) (span ∷ block) (piece ∷ cell) within is =
    let high = within.0 in
    let below = is.0.below_high in
    (omega (arith, high, below), cell_within axes block cell within.1 is.1)

-- the block of all pieces is within the axes, and so is each cell that is found in a block of them
pub whole_within : (axes : List ℕ) → IsWithin axes (whole_block axes)
unfolding whole_block IsWithin
whole_within [] = tt
whole_within (count ∷ axes) = (omega arith, whole_within axes)

pub found_within : (axes : List ℕ) (test : List ℕ → Bool) (block : List Span) (cell : List ℕ)
    → IsWithin axes block → find test (cells block) ≡ Some cell → IsWithin axes (block_of cell)
found_within axes test block cell within is =
    cell_within axes block cell within
    (of_found (IsCellOf block) test (cells block) cell (each_cell block) is)
