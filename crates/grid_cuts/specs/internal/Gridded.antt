-- The parts of which a grid is put together.
use Rattle.std.specs.Prelude.{◌≡◌, ℕ, ◌*◌, ◌<◌, ◌≤◌, Option, Some, None, List, [], ◌∷◌, map, length}
use Rattle.std.specs.Prelude.{All, ℤ}
use Rattle.exact_fraction.specs.Number.{Rational}
use Rattle.interval_sets.specs.declared.interval.Interval.{Interval}
use Rattle.rule_types.specs.declared.key.Key.{Key}
use Rattle.rule_types.specs.declared.rules.Rules.{Rules}
use Rattle.moment_pieces.specs.Pieces.{piece_firsts}
use Rattle.verdict_meaning.specs.declared.cell.Cell.{Cell}
use Rattle.verdict_meaning.specs.declared.question.Question.{Question}
use Rattle.verdict_meaning.specs.FitRanges.{AreEnds}
use Rattle.verdict_meaning.specs.Grids.{axes_of, cuts_of, moment_pieces, product_of_lengths}
use Rattle.verdict_meaning.specs.Premises.{start_of}
use Rattle.verdict_meaning.specs.Verdicts.{most_cells, written_count}
use Rattle.block_search.specs.Blocks.{span_from}
use Rattle.grid_blocks.specs.declared.grid.Grid.{Grid}
use Rattle.grid_blocks.specs.declared.grid.KeyCuts.{KeyCuts}
use Rattle.grid_blocks.specs.declared.grid.MomentPieces.{MomentPieces}
use Rattle.grid_blocks.specs.GridBoxes.{interval_of, piece_count}
use Rattle.grid_blocks.specs.GridsOf.{HasFewPieces, IsGridOf}
use Rattle.grid_cuts.specs.declared.end.GridEnd.{GridEnd}
use Rattle.grid_cuts.specs.declared.end.GridEnd.TheVariants as end
use Rattle.grid_cuts.specs.declared.moments.GridMoments.{GridMoments}

-- ---- keys

-- a key of a box with its cuts
abbrev pub axis_of : Rules → Question → Key × Interval → KeyCuts
axis_of x question entry = record { key = entry.0; cuts = cuts_of x question entry.0 entry.1 }

-- the interval of all pieces of some cuts
abbrev pub whole_of : List Rational → Interval
whole_of cuts = interval_of cuts (span_from 0 (piece_count cuts))

-- the first and the last number of a range are its first and last cut
abbrev pub IsCutWhole : Rules → Question → Key × Interval → Type 0
IsCutWhole x question entry =
    AreEnds entry.1.low entry.1.high
    → whole_of (cuts_of x question entry.0 entry.1) ≡ entry.1

-- the keys of a box with their cuts, which begin and end as their ranges do
pub record AreAxesOf (x : Rules) (question : Question) (entries : List (Key × Interval))
    (axes : List KeyCuts) : Type 0 where
  pub are : axes ≡ map (axis_of x question) entries
  pub whole : All (IsCutWhole x question) entries

-- the number of cells of some axes, as a product
unfoldable pub piece_product : List KeyCuts → ℕ
piece_product [] = 1
piece_product (axis ∷ axes) = piece_count axis.cuts * piece_product axes

-- ---- moments

abbrev pub pieces_from : List ℤ → ℤ → MomentPieces
pieces_from firsts last = record { firsts = firsts; last = last }

-- the pieces of a run of moments, by the first moment of each, listed where they are not too many
pub record ArePiecesFrom (firsts : List ℤ) (last : ℤ) (moments : GridMoments) : Type 0 where
  pub count : moments.count ≡ length firsts
  pub pieces : moments.count ≤ most_cells → moments.pieces ≡ Some (pieces_from firsts last)

-- those of the moments of a box, for the rules of some numbers
abbrev pub AreMomentsOf : Rules → List ℕ → Option (ℤ × ℤ) → GridMoments → Type 0
AreMomentsOf x asked None moments = (moments.pieces ≡ None) × (moments.count ≡ 1)
AreMomentsOf x asked (Some span) moments =
    ArePiecesFrom (piece_firsts x asked x.routing_step (start_of x) span.0 span.1) span.1 moments

-- ---- grids

-- a grid of these axes and moments, which are few
pub record IsPut (axes : List KeyCuts) (moments : GridMoments) (grid : Grid) : Type 0 where
  pub keys : grid.keys ≡ axes
  pub moments_are : grid.moments ≡ moments.pieces
  pub few : piece_product axes * moments.count ≤ most_cells

-- there are too many cells, and this is their count
pub record AreMany (cells count : ℕ) : Type 0 where
  pub many : most_cells < cells
  pub count_is : count ≡ written_count cells

abbrev pub EndsAt : ℕ → GridEnd → Type 0
EndsAt cells (end.TooManyCells count) = AreMany cells count
EndsAt cells end.NoMemory = Unit {0}

-- the number of cells of a box
abbrev pub cells_in : Rules → Question → Cell → ℕ
cells_in x question cell =
    product_of_lengths (axes_of x question cell.keys)
    * length (moment_pieces x question cell.moments)

-- a grid of a question over a box, of few cells
pub record IsGridIn (x : Rules) (question : Question) (cell : Cell) (grid : Grid) : Type 0 where
  pub is : IsGridOf x question cell grid
  pub few : cells_in x question cell ≤ most_cells
  pub short : HasFewPieces grid
