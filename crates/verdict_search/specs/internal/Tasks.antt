-- When the search of a question's grid can begin.
use Rattle.rule_types.specs.declared.rules.Rules.{Rules}
use Rattle.rule_types.specs.Tables.{HoldsTables, TableSet}
use Rattle.rule_types.specs.WellFormed.{WellFormed}
use Rattle.verdict_meaning.specs.declared.question.Question.{Question}
use Rattle.verdict_meaning.specs.declared.ranges.Ranges.{Ranges}
use Rattle.verdict_meaning.specs.Boxes.{first_box}
use Rattle.grid_blocks.specs.declared.grid.Grid.{Grid}
use Rattle.grid_blocks.specs.GridOrder.{IsInOrder}
use Rattle.grid_blocks.specs.GridsOf.{HasFewPieces, IsGridOf}
use Rattle.grid_samples.specs.Cells.{HasClosedRanges}

-- the rules are well formed, their tables are held, the ranges are closed, and the grid is that of
-- the question, in order and with few pieces
pub record IsReady (x : Rules) (tables : TableSet) (question : Question) (ranges : Ranges)
    (grid : Grid) : Type 0 where
  pub formed : WellFormed x
  pub tables_held : HoldsTables tables x.rules
  pub closed : HasClosedRanges ranges
  pub grid_is : IsGridOf x question (first_box x question ranges) grid
  pub in_order : IsInOrder grid
  pub short : HasFewPieces grid
