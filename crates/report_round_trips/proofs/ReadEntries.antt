-- Right verdicts that fit their questions are read back.
use Rattle.std.proofs.Common.{◌≡◌, ℕ, ◌^◌, ◌<◌, List, [], ◌∷◌, sym, subst}
use Rattle.std.specs.List.{AllZip}
use Rattle.std.specs.Prelude.{All, IsTrue}
use Rattle.object_index.specs.Objects.{Objects}
use Rattle.rule_types.specs.Keys.{is_input}
use Rattle.rule_types.specs.Tables.{TableSet}
use Rattle.rule_types.specs.WellFormed.{WellFormed}
use Rattle.rule_types.specs.declared.rules.Rules.{Rules}
use Rattle.verdict_meaning.specs.Grids.{cell_count}
use Rattle.verdict_meaning.specs.Verdicts.{IsStuck, IsVerdict}
use Rattle.verdict_meaning.specs.declared.question.Question.{Question}
use Rattle.verdict_meaning.specs.declared.ranges.Ranges.{Ranges}
use Rattle.verdict_meaning.specs.declared.verdict.Stuck.{Stuck}
use Rattle.verdict_meaning.specs.declared.verdict.Stuck.TheVariants as stuck
use Rattle.verdict_meaning.specs.declared.verdict.Verdict.{Verdict}
use Rattle.verdict_meaning.specs.declared.verdict.Verdict.TheVariants as verdict
use Rattle.grid_samples.specs.Cells.{HasClosedRanges}
use Rattle.report_lines.specs.Reports.{grid_of}
use Rattle.report_text.specs.Readable.{IsEntryOf, IsGridStuck, IsGridVerdict}
use Rattle.report_text.proofs.PublicLaws.{accepted_trees-fit}
use Rattle.report_round_trips.specs.ReadableVerdicts.{EntryFits, StuckFits, VerdictFits}
use Rattle.report_round_trips.proofs.LeanTrees.{lean_holds}
use Rattle.report_round_trips.proofs.OpenCells.{cell_read, count_short}
use Rattle.report_round_trips.proofs.SampleStates.{state_read}

stuck_read : (x : Rules) (tables : TableSet) (ranges : Ranges) (question : Question) (why : Stuck)
    → HasClosedRanges ranges → IsStuck x tables ranges question why → StuckFits x question why
    → IsGridStuck (grid_of x question) why
stuck_read x tables ranges question (stuck.Cell cell) closed right fits =
    cell_read x tables ranges question cell closed right.first fits
stuck_read x tables ranges question (stuck.TooManyCells count) closed right fits =
    subst (λ n. n < 2 ^ 64) (sym right.count_is) (count_short (cell_count x question ranges))

verdict_read : (x : Rules) (tables : TableSet) (objects : Objects) (ranges : Ranges)
    (question : Question) (answer : Verdict) → WellFormed x → HasClosedRanges ranges
    → All (λ key. IsTrue (is_input key)) x.input_keys
    → IsVerdict x tables ranges question answer → VerdictFits x objects question answer
    → IsGridVerdict x objects (grid_of x question) answer
verdict_read x tables objects ranges question (verdict.Holds tree) formed closed inputs right fits = (
  fits.0,
  accepted_trees-fit x tables question ranges tree right.accepted
      (lean_holds x tables question ranges tree right.lean fits.1),
)
verdict_read x tables objects ranges question (verdict.Refuted s) formed closed inputs right fits =
    state_read x tables ranges question s formed closed inputs right fits
verdict_read x tables objects ranges question (verdict.Undecided why) formed closed inputs right fits =
    stuck_read x tables ranges question why closed right fits

pub entries_read : (x : Rules) (tables : TableSet) (objects : Objects) (ranges : Ranges)
    (questions : List Question) (verdicts : List Verdict) → WellFormed x → HasClosedRanges ranges
    → All (λ key. IsTrue (is_input key)) x.input_keys
    → AllZip (IsVerdict x tables ranges) questions verdicts
    → AllZip (EntryFits x objects) questions verdicts
    → AllZip (λ question answer. IsEntryOf x objects (question, answer)) questions verdicts
entries_read x tables objects ranges [] [] formed closed inputs right fits = tt
entries_read x tables objects ranges [] (answer ∷ answers) formed closed inputs right fits = absurd fits
entries_read x tables objects ranges (question ∷ questions) [] formed closed inputs right fits = absurd fits
entries_read x tables objects ranges (question ∷ questions) (answer ∷ answers) formed closed inputs right fits = (
  record {
    question = fits.0.question_on;
    answer =
        verdict_read x tables objects ranges question answer formed closed inputs right.0
        fits.0.answer_fits;
  },
  entries_read x tables objects ranges questions answers formed closed inputs right.1 fits.1,
)
