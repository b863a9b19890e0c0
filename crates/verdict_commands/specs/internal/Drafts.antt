-- A report while its questions are decided one after another.
use Rattle.std.specs.Prelude.{◌≡◌, ℕ, Bool, ◌||◌, List, [], ◌∷◌, ◌++◌}
use Rattle.std.specs.List.{AllZip, flat_map, list_any, zip}
use Rattle.command_outputs.specs.declared.completion.Completion.{Completion}
use Rattle.report_lines.specs.Reports.{grid_of, second_version}
use Rattle.report_text.specs.WrittenReports.{Asked, asked_lines, entry_text, text_of}
use Rattle.verdict_meaning.specs.Verdicts.{IsVerdict}
use Rattle.verdict_meaning.specs.declared.question.Question.{Question}
use Rattle.verdict_meaning.specs.declared.verdict.Verdict.{Verdict}
use Rattle.verdict_commands.specs.Proves.{AreVerdicts, is_refuted, is_undecided, prove_text}
use Rattle.verdict_commands.specs.Proves.{verdicts_completion}
use Rattle.verdict_commands.specs.declared.prepared.Prepared.{Prepared}

-- the first line of a report
abbrev pub first_text : List ℕ
first_text = text_of (second_version ∷ [])

-- the entry of a question with its verdict
abbrev pub decided_text : Prepared → Question → Verdict → List ℕ
decided_text p question answer =
    entry_text p.project.rules p.project.objects (grid_of p.project.rules question) question answer

-- the entries of questions with their verdicts
abbrev pub entries_text : Prepared → List Asked → List ℕ
entries_text p asked = text_of (flat_map (asked_lines p.project.rules p.project.objects) asked)

-- a text is a report but for its last line, with right verdicts, and these tell whether a question
-- is refuted and whether one is undecided
pub record IsDraft (p : Prepared) (text : List ℕ) (refuted undecided : Bool) : Type 0 where
  pub verdicts : List Verdict
  pub right : AreVerdicts p verdicts
  pub text_is : text ≡ first_text ++ entries_text p (zip p.ranges.questions verdicts)
  pub refuted_is : refuted ≡ list_any is_refuted verdicts
  pub undecided_is : undecided ≡ list_any is_undecided verdicts

-- a text lacks the entries of these questions alone: with those of right verdicts it is a draft
abbrev pub LacksEntries : Prepared → List Question → List ℕ → Bool → Bool → Type 0
LacksEntries p rest text refuted undecided =
    (later : List Verdict)
    → AllZip (IsVerdict p.project.rules p.project.tables p.ranges) rest later
    → IsDraft p (text ++ entries_text p (zip rest later))
    (refuted || list_any is_refuted later) (undecided || list_any is_undecided later)

-- a text has one entry more: that of a question with a right verdict
pub record AddsEntry (p : Prepared) (question : Question) (was now : List ℕ)
    (refuted_was refuted_now undecided_was undecided_now : Bool) : Type 0 where
  pub verdict : Verdict
  pub right : IsVerdict p.project.rules p.project.tables p.ranges question verdict
  pub text_is : now ≡ was ++ decided_text p question verdict
  pub refuted_is : refuted_now ≡ (refuted_was || is_refuted verdict)
  pub undecided_is : undecided_now ≡ (undecided_was || is_undecided verdict)

-- a text is the whole report with right verdicts, and these tell how the run ends
pub record IsReport (p : Prepared) (text : List ℕ) (completion : Completion) : Type 0 where
  pub verdicts : List Verdict
  pub right : AreVerdicts p verdicts
  pub text_is : text ≡ prove_text p verdicts
  pub completion_is : completion ≡ verdicts_completion verdicts
