-- At a cell of a plain question that is not shown, the sample has the event.
use Rattle.std.proofs.Common.{◌≡◌, ℕ, Bool, true, false, not, Some, refl, sym, ap, ◌∙◌, cond}
use Rattle.std.specs.Prelude.{slice_get}
use Rattle.rule_types.specs.declared.action.PidMemory.{PidMemory}
use Rattle.rule_types.specs.declared.rules.Rules.{Rules}
use Rattle.rule_types.specs.declared.state.State.{State}
use Rattle.rule_types.specs.Tables.{HoldsTables, TableSet}
use Rattle.rule_types.specs.WellFormed.{WellFormed}
use Rattle.rule_meaning.specs.Premise.{premise_holds}
use Rattle.verdict_meaning.specs.declared.cell.Cell.{Cell}
use Rattle.verdict_meaning.specs.declared.question.Question.{Question}
use Rattle.verdict_meaning.specs.declared.question.Question.TheVariants.{Conflict, Dead, Limit}
use Rattle.verdict_meaning.specs.declared.ranges.Ranges.{Ranges}
use Rattle.verdict_meaning.specs.declared.truth.Truth.TheVariants.{Yes, No}
use Rattle.verdict_meaning.specs.Events.{has_event}
use Rattle.verdict_meaning.specs.Grids.{grid_cells, sample_of}
use Rattle.verdict_meaning.specs.Shown.{known_in, shown}
use Rattle.verdict_meaning.specs.Verdicts.{is_plain_question}
use Rattle.verdict_meaning.proofs.PublicLaws.{shown_boxes-no_event}
use Rattle.decided_events.specs.DecidedLimits.{DecidesLimit}
use Rattle.decided_events.specs.DecidedPremises.{DecidesAs}
use Rattle.decided_events.proofs.PublicLaws.{open_limits-acted, plain_questions-event}
use Rattle.grid_samples.specs.Cells.{HasClosedRanges, TracksLimit}
use Rattle.grid_samples.proofs.PublicLaws.{limits-tracked}
use Rattle.cell_truths.specs.DecidedTruths.{GivesMoments, truth_of}
use Rattle.cell_truths.proofs.PublicLaws.{cells-decided, cells-inside}
use Rattle.plain_questions.proofs.LimitSettings.{limit_decided}

truth_is : (holds : Bool) → truth_of holds ≡ cond holds Yes No
truth_is true = refl
truth_is false = refl

decides : (x : Rules) (question : Question) (ranges : Ranges) (cell : Cell) (k : ℕ) (s : State)
    → WellFormed x → HasClosedRanges ranges → GivesMoments x question ranges
    → is_plain_question x question ≡ true
    → slice_get (grid_cells x question ranges) k ≡ Some cell → sample_of x cell ≡ Some s
    → DecidesAs x question cell s
decides x question ranges cell k s formed ends gives plain at sampled = record {
  each = λ number rule is asked.
      cells-decided x question ranges cell k s number rule formed ends gives plain at sampled is asked
      ∙ truth_is (premise_holds x s rule);
}

decides_limit : (x : Rules) (tables : TableSet) (question : Question) (ranges : Ranges)
    (cell : Cell) (k : ℕ) (s : State) → WellFormed x → HasClosedRanges ranges
    → slice_get (grid_cells x question ranges) k ≡ Some cell → sample_of x cell ≡ Some s
    → shown x tables question cell ≡ false → DecidesLimit x cell s question
unfolding shown
decides_limit x tables (Conflict first second link) ranges cell k s formed ends at sampled h = tt
decides_limit x tables (Dead number) ranges cell k s formed ends at sampled h = tt
decides_limit x tables (Limit link lo hi) ranges cell k s formed ends at sampled h =
    limit_decided x ranges cell k s link lo hi formed ends
    (limits-tracked x link lo hi formed
    (open_limits-acted x tables cell (known_in x (Limit link lo hi) cell) link lo hi h))
    at sampled

pub open_event : (x : Rules) (tables : TableSet) (memory : ℕ → PidMemory) (question : Question)
    (ranges : Ranges) (cell : Cell) (k : ℕ) (s : State) → WellFormed x → HasClosedRanges ranges
    → GivesMoments x question ranges → is_plain_question x question ≡ true
    → slice_get (grid_cells x question ranges) k ≡ Some cell → sample_of x cell ≡ Some s
    → shown x tables question cell ≡ false → has_event x tables memory s question ≡ true
open_event x tables memory question ranges cell k s formed ends gives plain at sampled h =
    plain_questions-event x tables memory s cell question plain
    (decides x question ranges cell k s formed ends gives plain at sampled)
    (decides_limit x tables question ranges cell k s formed ends at sampled h) h

-- ---- a cell is shown exactly where its sample does not have the event
contrary : (shown_there event : Bool) → (shown_there ≡ false → event ≡ true)
    → (shown_there ≡ true → event ≡ true → ⊥) → shown_there ≡ not event
contrary true true h excluded = absurd (excluded refl refl)
contrary true false h excluded = refl
contrary false event h excluded = ap not (sym (h refl))

pub shown_exactly : (x : Rules) (tables : TableSet) (memory : ℕ → PidMemory)
    (question : Question) (ranges : Ranges) (cell : Cell) (k : ℕ) (s : State) → WellFormed x
    → HoldsTables tables x.rules → HasClosedRanges ranges → GivesMoments x question ranges
    → TracksLimit x question → is_plain_question x question ≡ true
    → slice_get (grid_cells x question ranges) k ≡ Some cell → sample_of x cell ≡ Some s
    → shown x tables question cell ≡ not (has_event x tables memory s question)
shown_exactly x tables memory question ranges cell k s formed held ends gives tracks plain at
    sampled =
    contrary (shown x tables question cell) (has_event x tables memory s question)
    (open_event x tables memory question ranges cell k s formed ends gives plain at sampled)
    (shown_boxes-no_event x tables memory s cell question held
    (cells-inside x question ranges cell k s formed ends tracks at sampled))
