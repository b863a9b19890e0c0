-- What is judged of the blocks and cells of a question's grid.
use Rattle.std.specs.Prelude.{ℕ, Bool, false, not, ◌&&◌, nat_lt, Option, Some, None, List, []}
use Rattle.std.specs.Prelude.{length}
use Rattle.rule_types.specs.declared.rules.Rules.{Rules}
use Rattle.rule_types.specs.declared.state.State.{State}
use Rattle.rule_types.specs.Tables.{TableSet}
use Rattle.block_search.specs.Judgements.{Judgement}
use Rattle.verdict_meaning.specs.declared.cell.Cell.{Cell}
use Rattle.verdict_meaning.specs.declared.question.Question.{Question}
use Rattle.verdict_meaning.specs.Events.{has_event}
use Rattle.verdict_meaning.specs.Grids.{sample_memory, sample_of}
use Rattle.verdict_meaning.specs.Shown.{shown}
use Rattle.verdict_meaning.specs.Verdicts.{is_leaf, none_spare}
use Rattle.grid_blocks.specs.declared.grid.Grid.{Grid}
use Rattle.grid_blocks.specs.GridBoxes.{box_of, cell_of, lengths}

-- whether the sample of a cell has the event; a cell without a sample has no event
abbrev pub sample_event : Rules → TableSet → Question → Option State → Bool
sample_event x tables question None = false
sample_event x tables question (Some s) = has_event x tables sample_memory s question

-- whether a leaf of a box is accepted with these facts, of which none can be left out
unfoldable pub is_lean_leaf : Rules → TableSet → Question → Cell → List (ℕ × Bool) → Bool
is_lean_leaf x tables question cell facts =
    is_leaf x tables question cell facts
    && none_spare (is_leaf x tables question cell) [] facts

-- A block is shown where its box is, with the facts of a leaf of that box; a cell has the event
-- where its sample has it. The axis behind those of the keys is of moments.
unfoldable pub judgement_of : Rules → TableSet → Question → Grid → Judgement
judgement_of x tables question grid =
    record {
      axes = lengths grid;
      has_moments = λ axis. not (nat_lt axis (length grid.keys));
      shown = λ block. shown x tables question (box_of grid block);
      accepts = λ block facts. is_lean_leaf x tables question (box_of grid block) facts;
      event = λ cell. sample_event x tables question (sample_of x (cell_of grid cell));
    }
