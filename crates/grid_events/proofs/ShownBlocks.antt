-- A block that is shown has no cell with the event.
use Rattle.std.proofs.Common.{◌≡◌, ℕ, Bool, true, false, Option, Some, None, List, map, refl, sym}
use Rattle.std.proofs.Common.{subst}
use Rattle.std.specs.List.{AllByRecursion, find}
use Rattle.std.proofs.lemmas.List.Elements.{recursion_from_All}
use Rattle.rule_types.specs.declared.rules.Rules.{Rules}
use Rattle.rule_types.specs.declared.state.State.{State}
use Rattle.rule_types.specs.Tables.{HoldsTables, TableSet}
use Rattle.rule_types.specs.WellFormed.{WellFormed}
use Rattle.block_search.specs.declared.span.Span.{Span}
use Rattle.block_search.specs.Blocks.{block_of, cells, IsWithin, whole_block}
use Rattle.verdict_meaning.specs.declared.cell.Cell.{Cell}
use Rattle.verdict_meaning.specs.declared.question.Question.{Question}
use Rattle.verdict_meaning.specs.declared.ranges.Ranges.{Ranges}
use Rattle.verdict_meaning.specs.Boxes.{first_box, IsStateIn}
use Rattle.verdict_meaning.specs.Events.{has_event}
use Rattle.verdict_meaning.specs.Grids.{grid_cells, sample_memory, sample_of}
use Rattle.verdict_meaning.specs.Shown.{shown}
use Rattle.verdict_meaning.proofs.PublicLaws.{shown_boxes-no_event}
use Rattle.grid_blocks.specs.declared.grid.Grid.{Grid}
use Rattle.grid_blocks.specs.GridBoxes.{box_of, cell_of, lengths}
use Rattle.grid_blocks.specs.GridsOf.{IsGridOf}
use Rattle.grid_trees.specs.GridJudgements.{judgement_of, sample_event}
use Rattle.grid_samples.specs.Cells.{HasClosedRanges, IsGridCell}
use Rattle.grid_events.specs.BlockCells.{IsCellOf}
use Rattle.grid_events.proofs.BlockCells.{cell_within, each_cell, of_cell}
use Rattle.grid_events.proofs.CellCovers.{box_covers}
use Rattle.grid_blocks.proofs.PublicLaws.{cells-all, orders-grid}
use Rattle.grid_samples.proofs.PublicLaws.{grids-cells, samples-in_boxes}
use Rattle.grid_events.proofs.Lists.{each_by, map_each, none_passes}
use Rattle.grid_events.proofs.Tracked.{limit_tracked}

-- ---- the cells of the grid
each_grid_cell : (x : Rules) (question : Question) (ranges : Ranges) (grid : Grid)
    → HasClosedRanges ranges → IsGridOf x question (first_box x question ranges) grid
    → AllByRecursion (IsGridCell x question (first_box x question ranges))
    (map (cell_of grid) (cells (whole_block (lengths grid))))
unfolding grid_cells
each_grid_cell x question ranges grid closed is =
    subst (AllByRecursion (IsGridCell x question (first_box x question ranges)))
    (sym (cells-all x question (first_box x question ranges) grid is))
    (recursion_from_All (IsGridCell x question (first_box x question ranges))
    (grid_cells x question ranges) (grids-cells x question ranges closed))

pub cell_of_grid : (x : Rules) (question : Question) (ranges : Ranges) (grid : Grid)
    (cell : List ℕ) → HasClosedRanges ranges
    → IsGridOf x question (first_box x question ranges) grid
    → IsWithin (lengths grid) (block_of cell)
    → IsGridCell x question (first_box x question ranges) (cell_of grid cell)
cell_of_grid x question ranges grid cell closed is within =
    of_cell (λ one. IsGridCell x question (first_box x question ranges) (cell_of grid one))
    (lengths grid) cell
    (map_each (IsGridCell x question (first_box x question ranges)) (cell_of grid)
    (cells (whole_block (lengths grid))) (each_grid_cell x question ranges grid closed is))
    within

-- ---- samples with the event
pub event_state : (x : Rules) (tables : TableSet) (question : Question) (ranges : Ranges)
    (grid : Grid) (block : List Span) (cell : List ℕ) (s : State) → WellFormed x
    → HasClosedRanges ranges → IsGridOf x question (first_box x question ranges) grid
    → IsWithin (lengths grid) block → IsCellOf block cell
    → sample_of x (cell_of grid cell) ≡ Some s
    → has_event x tables sample_memory s question ≡ true → IsStateIn x (box_of grid block) s
event_state x tables question ranges grid block cell s formed closed is within of_block e event =
    let here =
    cell_of_grid x question ranges grid cell closed is
    (cell_within (lengths grid) block cell within of_block) in
    samples-in_boxes x question (box_of grid block) (cell_of grid cell) s formed
    (limit_tracked x tables question s event) here.keys here.pieces
    (box_covers grid block cell (orders-grid x question ranges grid is) within of_block) e

no_event_by : (x : Rules) (tables : TableSet) (question : Question) (box : Cell)
    (o : Option State) → HoldsTables tables x.rules → shown x tables question box ≡ true
    → ((s : State) → o ≡ Some s → has_event x tables sample_memory s question ≡ true
    → IsStateIn x box s)
    → sample_event x tables question o ≡ false
no_event_by x tables question box None held is h = refl
no_event_by x tables question box (Some s) held is h =
    by_test (has_event x tables sample_memory s question) refl
  where
    by_test : (b : Bool) → has_event x tables sample_memory s question ≡ b → b ≡ false
    by_test true event =
        absurd
        (shown_boxes-no_event x tables sample_memory s box question held (h s refl event) is
        event)
    by_test false event = refl

pub shown_no_event : (x : Rules) (tables : TableSet) (question : Question) (ranges : Ranges)
    (grid : Grid) (block : List Span) → WellFormed x → HoldsTables tables x.rules
    → HasClosedRanges ranges → IsGridOf x question (first_box x question ranges) grid
    → IsWithin (judgement_of x tables question grid).axes block
    → (judgement_of x tables question grid).shown block ≡ true
    → find (judgement_of x tables question grid).event (cells block) ≡ None
unfolding judgement_of
shown_no_event x tables question ranges grid block formed held closed is within shown_is =
    none_passes (λ cell. sample_event x tables question (sample_of x (cell_of grid cell)))
    (cells block)
    (each_by (IsCellOf block)
    (λ cell. sample_event x tables question (sample_of x (cell_of grid cell)) ≡ false)
    (λ cell of_block.
    no_event_by x tables question (box_of grid block) (sample_of x (cell_of grid cell)) held
    shown_is
    (λ s e event.
    event_state x tables question ranges grid block cell s formed closed is within of_block e
    event))
    (cells block) (each_cell block))
