-- What `prove` comes to, and which verdicts it may write.
use Rattle.std.specs.Prelude.{ℕ, nat_lt, Bool, true, false, if◌then◌else◌, List, [], ◌∷◌, length}
use Rattle.std.specs.Prelude.{Option, None, Some, IfSome, option_and_then, Result, Ok, Err}
use Rattle.std.specs.Io.KnownBytes.{Appends}
use Rattle.std.specs.List.{AllZip, list_any, zip}
use Rattle.std.specs.Result.{result_ok}
use Rattle.command_outputs.specs.Commands.{Performs}
use Rattle.command_outputs.specs.Outcomes.{Outcome, file_lines, stage, written}
use Rattle.command_outputs.specs.Outcomes.{input_file, ranges_file}
use Rattle.command_outputs.specs.Statuses.{completion_status}
use Rattle.command_outputs.specs.declared.complaint.Complaint.{Complaint}
use Rattle.command_outputs.specs.declared.complaint.Complaint.TheVariants as complaint
use Rattle.command_outputs.specs.declared.completion.Completion.{Completion}
use Rattle.command_outputs.specs.declared.completion.Completion.TheVariants.{Done, Refuted}
use Rattle.command_outputs.specs.declared.completion.Completion.TheVariants.{Undecided}
use Rattle.command_outputs.specs.declared.file_kind.FileKind.{FileKind}
use Rattle.command_outputs.specs.declared.role.Role.{Role}
use Rattle.command_outputs.specs.declared.role.Role.TheVariants.{Input, Ranges}
use Rattle.input_check.specs.InputRefusals.{project_judged}
use Rattle.report_text.specs.WrittenReports.{report_text}
use Rattle.rule_parser.specs.declared.project.Project.{Project}
use Rattle.verdict_meaning.specs.Verdicts.{IsVerdict}
use Rattle.verdict_meaning.specs.declared.verdict.Verdict.{Verdict}
use Rattle.verdict_meaning.specs.declared.verdict.Verdict.TheVariants as verdict
use Rattle.verdict_commands.specs.Preparing.{ranges_judged}
use Rattle.verdict_commands.specs.declared.prepared.Prepared.{Prepared}

-- ---- verdicts
-- each question has its verdict, in their order
abbrev pub AreVerdicts : Prepared → List Verdict → Type 0
AreVerdicts p verdicts =
    AllZip (IsVerdict p.project.rules p.project.tables p.ranges) p.ranges.questions verdicts

abbrev pub is_refuted : Verdict → Bool
is_refuted (verdict.Holds tree) = false
is_refuted (verdict.Refuted s) = true
is_refuted (verdict.Undecided why) = false

abbrev pub is_undecided : Verdict → Bool
is_undecided (verdict.Holds tree) = false
is_undecided (verdict.Refuted s) = false
is_undecided (verdict.Undecided why) = true

-- ---- text and status
-- how the run ends: refuted where a question is, else undecided where one is, else done
abbrev pub completion_by : Bool → Bool → Completion
completion_by refuted undecided =
    if refuted then Refuted else (if undecided then Undecided else Done)

abbrev pub verdicts_completion : List Verdict → Completion
verdicts_completion verdicts =
    completion_by (list_any is_refuted verdicts) (list_any is_undecided verdicts)

-- the report of the questions with these verdicts
abbrev pub prove_text : Prepared → List Verdict → List ℕ
prove_text p verdicts =
    report_text p.project.rules p.project.objects (zip p.ranges.questions verdicts)

-- the report is written after two files
abbrev pub proved : List Verdict → Prepared → Outcome
proved verdicts p =
    written 2 (completion_status (verdicts_completion verdicts)) (prove_text p verdicts)

-- ---- the stages
abbrev pub prove_roles : List Role
prove_roles = Input ∷ Ranges ∷ []

-- what comes after the input file, over what is held under the name of the ranges
abbrev pub prove_after_input : List Verdict → Option (List ℕ) → Project → Option Outcome
prove_after_input verdicts ranges p =
    stage ranges_file (ranges_judged p) (λ prepared. Some (proved verdicts prepared)) ranges

-- what `prove IN RANGES` comes to, over what is held under the names of files, where these are the
-- verdicts of its questions: the ranges are opened only where the input file is accepted
abbrev pub prove_outcome : (List ℕ → Option (List ℕ)) → List ℕ → List ℕ → List Verdict
    → Option Outcome
prove_outcome held input ranges verdicts =
    stage input_file project_judged (prove_after_input verdicts (held ranges)) (held input)

-- ---- what is asked
-- what a file of these bytes gives, where it is accepted
abbrev pub accepted : {A : Type 0} → FileKind → (List (Option (List ℕ)) → Result A (List ℕ))
    → List ℕ → Option A
accepted kind judge bytes =
    if nat_lt kind.budget (length bytes) then None else result_ok (judge (file_lines kind bytes))

-- the prepared project whose questions are asked, where it is known what both files hold and both
-- are accepted
abbrev pub asked_project : (List ℕ → Option (List ℕ)) → List ℕ → List ℕ → Option Prepared
asked_project held input ranges =
    option_and_then
    (λ project. option_and_then (accepted ranges_file (ranges_judged project)) (held ranges))
    (option_and_then (accepted input_file project_judged) (held input))

-- What each answer says of the verdicts: they are right where the report was written or a write of
-- it failed. Else nothing was written.
abbrev pub Decides : Option Prepared → List Verdict → Option (List ℕ) → Option (List ℕ)
    → Result Completion Complaint → Type 0
Decides asked verdicts was now (Ok completion) = IfSome asked (λ p. AreVerdicts p verdicts)
Decides asked verdicts was now (Err complaint.WriteFailed) =
    IfSome asked (λ p. AreVerdicts p verdicts)
Decides asked verdicts was now (Err (complaint.Refused line)) = Appends was now []
Decides asked verdicts was now (Err (complaint.TooLong r)) = Appends was now []
Decides asked verdicts was now (Err (complaint.ReadFailed r)) = Appends was now []
Decides asked verdicts was now (Err complaint.OutOfMemory) = Appends was now []

-- What `prove IN RANGES` leaves: there are verdicts with which it performs its outcome, and these
-- are right.
pub record Proves (held : List ℕ → Option (List ℕ)) (input ranges : List ℕ)
    (open_now : ℕ → Type 0) (left_was left_now : ℕ → Option (List ℕ))
    (faults_was faults_now : ℕ → ℕ) (out_was out_now : Option (List ℕ))
    (out_faults_was out_faults_now : ℕ) (result : Result Completion Complaint) : Type 0 where
  pub verdicts : List Verdict
  pub right : Decides (asked_project held input ranges) verdicts out_was out_now result
  pub performs : Performs prove_roles (prove_outcome held input ranges verdicts)
      open_now left_was left_now faults_was faults_now
      out_was out_now out_faults_was out_faults_now result
