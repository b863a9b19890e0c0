-- Which grid is that of a question over ranges.
use Rattle.std.specs.Prelude.{◌≡◌, ◌<◌, ◌^◌, Option, Some, None, List, map, All, ℤ}
use Rattle.exact_fraction.specs.Number.{Rational}
use Rattle.rule_types.specs.declared.key.Key.{Key}
use Rattle.rule_types.specs.declared.rules.Rules.{Rules}
use Rattle.moment_pieces.specs.Pieces.{piece_firsts}
use Rattle.verdict_meaning.specs.declared.cell.Cell.{Cell}
use Rattle.verdict_meaning.specs.declared.question.Question.{Question}
use Rattle.verdict_meaning.specs.Grids.{cuts_of}
use Rattle.verdict_meaning.specs.Premises.{start_of}
use Rattle.verdict_meaning.specs.Questions.{asked_numbers}
use Rattle.block_search.specs.Blocks.{whole_block}
use Rattle.grid_blocks.specs.GridBoxes.{box_of, lengths}
use Rattle.grid_blocks.specs.declared.grid.Grid.{Grid}
use Rattle.grid_blocks.specs.declared.grid.KeyCuts.{KeyCuts}
use Rattle.grid_blocks.specs.declared.grid.MomentPieces.{MomentPieces}

abbrev pub key_with_cuts : KeyCuts → Key × List Rational
key_with_cuts axis = (axis.key, axis.cuts)

-- the pieces of the moments of a box
pub record IsPiecesOf (x : Rules) (question : Question) (span : ℤ × ℤ) (pieces : MomentPieces) :
    Type 0 where
  pub firsts :
      pieces.firsts
      ≡ piece_firsts x (asked_numbers x question) x.routing_step (start_of x) span.0 span.1
  pub last : pieces.last ≡ span.1

abbrev pub IsMomentsOf : Rules → Question → Option (ℤ × ℤ) → Option MomentPieces → Type 0
IsMomentsOf x question None None = Unit {0}
IsMomentsOf x question None (Some pieces) = ⊥
IsMomentsOf x question (Some span) None = ⊥
IsMomentsOf x question (Some span) (Some pieces) = IsPiecesOf x question span pieces

-- A grid of a question over a box: each key of the box with its cuts, and the pieces of its
-- moments. All its cells together are the box.
pub record IsGridOf (x : Rules) (question : Question) (cell : Cell) (grid : Grid) : Type 0 where
  pub keys :
      map key_with_cuts grid.keys
      ≡ map (λ entry. (entry.0, cuts_of x question entry.0 entry.1)) cell.keys
  pub moments : IsMomentsOf x question cell.moments grid.moments
  pub whole : box_of grid (whole_block (lengths grid)) ≡ cell

-- the number of pieces of each axis is held in 32 bits
abbrev pub HasFewPieces : Grid → Type 0
HasFewPieces grid = All (λ count. count < 2 ^ 32) (lengths grid)
