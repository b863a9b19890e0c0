-- The boxes of a grid's blocks.
use Rattle.std.specs.Prelude.{ℕ, ◌*◌, ◌-◌, ◌/◌, ◌%◌, nat_eq, Option, Some, None, List, [], ◌∷◌}
use Rattle.std.specs.Prelude.{◌++◌}
use Rattle.std.specs.Prelude.{map, length, drop, slice_get, slice_index_or, slice_set}
use Rattle.std.specs.Prelude.{if◌then◌else◌, ℤ, pos, ◌-ℤ◌}
use Rattle.exact_fraction.specs.Number.{Rational, zero}
use Rattle.interval_sets.specs.declared.interval.Bound.TheVariants as end
use Rattle.interval_sets.specs.declared.interval.Interval.{Interval}
use Rattle.rule_types.specs.declared.key.Key.{Key}
use Rattle.block_search.specs.declared.span.Span.{Span}
use Rattle.block_search.specs.Blocks.{block_of, is_none}
use Rattle.verdict_meaning.specs.declared.cell.Cell.{Cell}
use Rattle.grid_blocks.specs.declared.grid.Grid.{Grid}
use Rattle.grid_blocks.specs.declared.grid.KeyCuts.{KeyCuts}
use Rattle.grid_blocks.specs.declared.grid.MomentPieces.{MomentPieces}

-- ---- keys

-- the number of pieces of so many cuts: the cuts, and the gaps between them
abbrev pub piece_count : List Rational → ℕ
piece_count cuts = 2 * length cuts - 1

abbrev pub cut_at : List Rational → ℕ → Rational
cut_at cuts piece = slice_index_or cuts (piece / 2) zero

-- the interval of a run of pieces: an even piece is a cut, an odd one the gap above it. So a run
-- that begins with a gap leaves its low end out, and one that ends with a gap its high end.
unfoldable pub interval_of : List Rational → Span → Interval
interval_of cuts span =
    record {
      low = end.Bound (cut_at cuts span.low) (nat_eq (span.low % 2) 1);
      high = end.Bound (cut_at cuts span.high) (nat_eq (span.high % 2) 0);
    }

-- each key with the interval of its run
unfoldable pub keys_of : List KeyCuts → List Span → List (Key × Interval)
keys_of [] block = []
keys_of (axis ∷ axes) [] = []
keys_of (axis ∷ axes) (span ∷ block) =
    (axis.key, interval_of axis.cuts span) ∷ keys_of axes block

-- ---- moments

-- the last moment before a piece, or the last moment of all
abbrev pub end_before : MomentPieces → Option ℤ → ℤ
end_before pieces None = pieces.last
end_before pieces (Some first) = first -ℤ pos 1

-- the first and the last moment of a run of pieces
abbrev pub first_moment : MomentPieces → ℕ → ℤ
first_moment pieces at = slice_index_or pieces.firsts at pieces.last

abbrev pub moments_in : MomentPieces → Span → ℤ × ℤ
moments_in pieces span =
    (first_moment pieces span.low, end_before pieces (slice_get pieces.firsts span.high))

-- those of the axis behind the axes of the keys
unfoldable pub moments_of : Option MomentPieces → List Span → Option (ℤ × ℤ)
moments_of None block = None
moments_of (Some pieces) [] = None
moments_of (Some pieces) (span ∷ more) = Some (moments_in pieces span)

-- ---- boxes

unfoldable pub box_of : Grid → List Span → Cell
box_of grid block =
    record {
      keys = keys_of grid.keys block;
      moments = moments_of grid.moments (drop (length grid.keys) block);
    }

-- the box of a block with another run on an axis; a run without pieces has none
abbrev pub part_of : Grid → List Span → ℕ → Span → Option Cell
part_of grid block at run =
    if is_none run then None else Some (box_of grid (slice_set block at run))

-- the cell of one piece of each axis
abbrev pub cell_of : Grid → List ℕ → Cell
cell_of grid cell = box_of grid (block_of cell)

-- the number of pieces of each axis
abbrev pub moment_lengths : Option MomentPieces → List ℕ
moment_lengths None = []
moment_lengths (Some pieces) = length pieces.firsts ∷ []

unfoldable pub lengths : Grid → List ℕ
lengths grid = map (λ axis. piece_count axis.cuts) grid.keys ++ moment_lengths grid.moments
