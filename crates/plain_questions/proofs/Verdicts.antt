-- A plain question is Undecided only where it has too many cells, or a cell without a sample.
use Rattle.std.proofs.Common.{◌≡◌, ◌≤◌, Bool, true, false, not, Option, Some, None, refl, sym}
use Rattle.std.proofs.Common.{subst, ◌∙◌, arith}
use Rattle.std.proofs.lemmas.Bool.{true≢false}
use Rattle.std.proofs.lemmas.List.Elements.{recursion_from_All}
use Rattle.std.specs.Prelude.{IsSome}
use Rattle.rule_types.specs.declared.rules.Rules.{Rules}
use Rattle.rule_types.specs.declared.state.State.{State}
use Rattle.rule_types.specs.Tables.{TableSet}
use Rattle.rule_types.specs.WellFormed.{WellFormed}
use Rattle.verdict_meaning.specs.declared.cell.Cell.{Cell}
use Rattle.verdict_meaning.specs.declared.question.Question.{Question}
use Rattle.verdict_meaning.specs.declared.ranges.Ranges.{Ranges}
use Rattle.verdict_meaning.specs.declared.verdict.Stuck.{Stuck}
use Rattle.verdict_meaning.specs.declared.verdict.Stuck.TheVariants as stuck
use Rattle.verdict_meaning.specs.declared.verdict.Verdict.TheVariants as verdict
use Rattle.verdict_meaning.specs.Events.{has_event}
use Rattle.verdict_meaning.specs.Grids.{cell_count, grid_cells, sample_memory, sample_of}
use Rattle.verdict_meaning.specs.Shown.{shown}
use Rattle.verdict_meaning.specs.Verdicts.{first_event, first_open, IsOpenCell, IsVerdict}
use Rattle.verdict_meaning.specs.Verdicts.{is_plain_question, most_cells}
use Rattle.grid_samples.specs.Cells.{HasClosedRanges}
use Rattle.cell_truths.specs.DecidedTruths.{GivesMoments}
use Rattle.plain_questions.specs.SampledGrids.{HasSamples}
use Rattle.plain_questions.proofs.Lists.{each_at, found_in, IsFound, none_passes}
use Rattle.plain_questions.proofs.OpenCells.{open_event}

-- the cell of an Undecided question is one of its grid that is not shown
found_open : (x : Rules) (tables : TableSet) (ranges : Ranges) (question : Question)
    (cell : Cell) → first_open x tables ranges question ≡ Some cell
    → IsFound Cell (λ one. not (shown x tables question one)) (grid_cells x question ranges) cell
unfolding first_open
found_open x tables ranges question cell e =
    found_in (λ one. not (shown x tables question one)) (grid_cells x question ranges) cell e

-- where no sample has the event, the sample of a cell of the grid does not
no_event : (x : Rules) (tables : TableSet) (ranges : Ranges) (question : Question) (cell : Cell)
    (s : State)
    → (found : IsFound Cell (λ one. not (shown x tables question one))
    (grid_cells x question ranges) cell)
    → first_event x tables ranges question ≡ None → sample_of x cell ≡ Some s
    → has_event x tables sample_memory s question ≡ false
unfolding first_event
no_event x tables ranges question cell s found none sampled =
    none_passes (λ one. has_event x tables sample_memory one question) (sample_of x)
    (grid_cells x question ranges) found.place cell s none found.is sampled

not_shown : (b : Bool) → not b ≡ true → b ≡ false
not_shown true h = absurd (true≢false (sym h))
not_shown false h = refl

sample_by : (x : Rules) (tables : TableSet) (ranges : Ranges) (question : Question)
    (cell : Cell) → WellFormed x → HasClosedRanges ranges → GivesMoments x question ranges
    → is_plain_question x question ≡ true → IsOpenCell x tables ranges question cell
    → (o : Option State) → sample_of x cell ≡ o → o ≡ None
sample_by x tables ranges question cell formed ends gives plain d None sampled = refl
sample_by x tables ranges question cell formed ends gives plain d (Some s) sampled =
    let found = found_open x tables ranges question cell d.first in
    let event =
    open_event x tables sample_memory question ranges cell found.place s formed ends gives plain
    found.is sampled (not_shown (shown x tables question cell) found.passes) in
    absurd
    (true≢false
    (sym event ∙ no_event x tables ranges question cell s found d.none sampled))

pub no_sample : (x : Rules) (tables : TableSet) (ranges : Ranges) (question : Question)
    (cell : Cell) → WellFormed x → HasClosedRanges ranges → GivesMoments x question ranges
    → is_plain_question x question ≡ true
    → IsVerdict x tables ranges question (verdict.Undecided (stuck.Cell cell))
    → sample_of x cell ≡ None
no_sample x tables ranges question cell formed ends gives plain d =
    sample_by x tables ranges question cell formed ends gives plain d (sample_of x cell) refl

pub not_undecided : (x : Rules) (tables : TableSet) (ranges : Ranges) (question : Question)
    (why : Stuck) → WellFormed x → HasClosedRanges ranges → GivesMoments x question ranges
    → is_plain_question x question ≡ true → cell_count x question ranges ≤ most_cells
    → HasSamples x question ranges
    → IsVerdict x tables ranges question (verdict.Undecided why) → ⊥
not_undecided x tables ranges question (stuck.Cell cell) formed ends gives plain few sampled d =
    let found = found_open x tables ranges question cell d.first in
    let some : IsSome (sample_of x cell) =
    each_at (λ one. IsSome (sample_of x one)) (grid_cells x question ranges) found.place cell
    (recursion_from_All (λ one. IsSome (sample_of x one)) (grid_cells x question ranges) sampled)
    found.is in
    let none =
    subst (λ (o : Option State). IsSome o)
    (no_sample x tables ranges question cell formed ends gives plain d) some in
    true≢false (sym none)
not_undecided x tables ranges question (stuck.TooManyCells count) formed ends gives plain few
    sampled d =
    omega (arith, few, d.many)
