-- The box of a block covers the boxes of its cells.
use Rattle.std.proofs.Common.{◌≡◌, ◌⊎◌, inl, inr, ℕ, ◌<◌, ◌≤◌, Option, Some, None, List}
use Rattle.std.proofs.Common.{[], ◌∷◌, ◌++◌, map}
use Rattle.std.proofs.Common.{length, drop, ◌≤ℤ◌, ◌<ℤ◌, refl, subst, arith}
use Rattle.std.specs.List.{AllByRecursion, AllZip}
use Rattle.std.specs.Prelude.{IfSome}
use Rattle.std.proofs.lemmas.Bool.{cases_lt}
use Rattle.std.proofs.lemmas.Int.{ints}
use Rattle.std.proofs.lemmas.List.Elements.{recursion_from_All}
use Rattle.interval_sets.specs.Cuts.{IsRising}
use Rattle.block_search.specs.declared.span.Span.{Span}
use Rattle.block_search.specs.Blocks.{block_of, IsWithin, span_from}
use Rattle.verdict_meaning.specs.Boxes.{IsMomentIn}
use Rattle.grid_blocks.specs.declared.grid.Grid.{Grid}
use Rattle.grid_blocks.specs.declared.grid.KeyCuts.{KeyCuts}
use Rattle.grid_blocks.specs.declared.grid.MomentPieces.{MomentPieces}
use Rattle.grid_blocks.specs.GridBoxes.{box_of, cell_of, first_moment, keys_of, lengths}
use Rattle.grid_blocks.specs.GridBoxes.{moment_lengths}
use Rattle.grid_blocks.specs.GridBoxes.{moments_in, moments_of, piece_count}
use Rattle.grid_blocks.specs.GridOrder.{AreFirstsTo, IsInOrder}
use Rattle.grid_samples.specs.Covers.{Covers, CoversEntry, CoversMoments}
use Rattle.grid_events.specs.BlockCells.{IsCellOf, IsPieceOf}
use Rattle.grid_blocks.proofs.PublicLaws.{moment_parts-holds}
use Rattle.grid_events.proofs.RunOrder.{piece_in_run}

-- ---- keys
covered_keys : (axes : List KeyCuts) (others : List ℕ) (block : List Span) (cell : List ℕ)
    → AllByRecursion (λ axis. IsRising axis.cuts) axes
    → IsWithin (map (λ axis. piece_count axis.cuts) axes ++ others) block → IsCellOf block cell
    → AllZip CoversEntry (keys_of axes block) (keys_of axes (block_of cell))
unfolding keys_of block_of IsWithin IsCellOf
covered_keys [] others block cell rises within is = tt
covered_keys (axis ∷ axes) others [] cell rises within is = absurd within
covered_keys (axis ∷ axes) others (span ∷ block) [] rises within is = absurd is
covered_keys (axis ∷ axes) others (span ∷ block) (piece ∷ cell) rises within is = (
  (refl, piece_in_run axis.cuts span piece rises.0 within.0 is.0),
  covered_keys axes others block cell rises.1 within.1 is.1,
)

-- ---- moments
first_by : (pieces : MomentPieces) (low piece : ℕ) → AreFirstsTo pieces.last pieces.firsts
    → low ≤ piece → piece < length pieces.firsts → (low < piece) ⊎ (piece ≤ low)
    → first_moment pieces low ≤ℤ first_moment pieces piece
first_by pieces low piece order h k (inl below) =
    let rises : first_moment pieces low <ℤ first_moment pieces piece =
    order.rising low piece pieces.last below k in
    omega (arith, ints, rises)
first_by pieces low piece order h k (inr other) =
    let same : low ≡ piece = omega (arith, h, other) in
    subst (λ at. first_moment pieces low ≤ℤ first_moment pieces at) same (omega (arith, ints))

covered_run : (pieces : MomentPieces) (span : Span) (piece : ℕ)
    → AreFirstsTo pieces.last pieces.firsts → span.high ≤ length pieces.firsts
    → IsPieceOf span piece
    → IsMomentIn (moments_in pieces span) (first_moment pieces piece)
covered_run pieces span piece order within is =
    let low = is.from_low in
    let high = is.below_high in
    let last = moment_parts-holds pieces (span_from piece span.high) order high within in
    record {
      from_first =
          first_by pieces span.low piece order low (omega (arith, high, within))
          (cases_lt span.low piece);
      to_last = omega (arith, ints, last);
    }

covered_moments : (moments : Option MomentPieces) (block : List Span) (cell : List ℕ)
    → IfSome moments (λ pieces. AreFirstsTo pieces.last pieces.firsts)
    → IsWithin (moment_lengths moments) block → IsCellOf block cell
    → CoversMoments (moments_of moments block) (moments_of moments (block_of cell))
unfolding moments_of block_of IsWithin IsCellOf
covered_moments None block cell order within is = tt
covered_moments (Some pieces) [] cell order within is = absurd within
covered_moments (Some pieces) (span ∷ block) [] order within is = absurd is
covered_moments (Some pieces) (span ∷ block) (piece ∷ cell) order within is =
    covered_run pieces span piece order within.0 is.0

later_moments : (axes : List KeyCuts) (moments : Option MomentPieces) (block : List Span)
    (cell : List ℕ) → IfSome moments (λ pieces. AreFirstsTo pieces.last pieces.firsts)
    → IsWithin (map (λ axis. piece_count axis.cuts) axes ++ moment_lengths moments) block
    → IsCellOf block cell
    → CoversMoments (moments_of moments (drop (length axes) block))
    (moments_of moments (drop (length axes) (block_of cell)))
unfolding block_of IsWithin IsCellOf
later_moments [] moments block cell order within is =
    covered_moments moments block cell order within is
later_moments (axis ∷ axes) moments [] cell order within is = absurd within
later_moments (axis ∷ axes) moments (span ∷ block) [] order within is = absurd is
later_moments (axis ∷ axes) moments (span ∷ block) (piece ∷ cell) order within is =
    later_moments axes moments block cell order within.1 is.1

-- ---- boxes
pub box_covers : (grid : Grid) (block : List Span) (cell : List ℕ) → IsInOrder grid
    → IsWithin (lengths grid) block → IsCellOf block cell
    → Covers (box_of grid block) (cell_of grid cell)
unfolding box_of lengths
box_covers grid block cell order within is =
    let rises = recursion_from_All (λ axis. IsRising axis.cuts) grid.keys order.cuts in
    record {
      keys = covered_keys grid.keys (moment_lengths grid.moments) block cell rises within is;
      moments = later_moments grid.keys grid.moments block cell order.moments within is;
    }
