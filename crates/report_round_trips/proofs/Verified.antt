-- What `verify` comes to over the report that `prove` writes.
use Rattle.std.proofs.Common.{◌≡◌, ◌∙◌, ℕ, ◌≤◌, Bool, true, false, cond, List, length, nat_lt}
use Rattle.std.proofs.Common.{Option, None, Some, Result, Ok, Err, refl, sym, ap, arith}
use Rattle.std.proofs.lemmas.Bool.Decides.{nat_tests}
use Rattle.std.proofs.lemmas.Option.{none-some, same_Some}
use Rattle.std.specs.Prelude.{option_and_then}
use Rattle.std.specs.List.{AllZip}
use Rattle.std.specs.Result.{result_ok}
use Rattle.command_outputs.specs.Outcomes.{Outcome, file_lines, judged, stage, too_long}
use Rattle.command_outputs.specs.Outcomes.{input_file, ranges_file, report_file}
use Rattle.command_outputs.specs.declared.file_kind.FileKind.{FileKind}
use Rattle.input_check.specs.InputRefusals.{project_judged}
use Rattle.rule_parser.specs.declared.project.Project.{Project}
use Rattle.verdict_meaning.specs.declared.verdict.Verdict.{Verdict}
use Rattle.verdict_commands.specs.Preparing.{IsReady, ranges_judged}
use Rattle.verdict_commands.specs.Proves.{AreVerdicts, accepted, asked_project, prove_text}
use Rattle.verdict_commands.specs.Verifies.{after_input, after_ranges, counts_judged}
use Rattle.verdict_commands.specs.Verifies.{counts_or_line}
use Rattle.verdict_commands.specs.Verifies.{verified, verify_outcome}
use Rattle.verdict_commands.specs.declared.prepared.Prepared.{Prepared}
use Rattle.report_round_trips.specs.VerdictCounts.{counts_of}
use Rattle.report_round_trips.specs.ReadableVerdicts.{ReportFits}
use Rattle.report_round_trips.proofs.Accepted.{report_accepted}
use Rattle.report_round_trips.proofs.ReadEntries.{entries_read}

-- ---- the report of a prepared project
pub text_accepted : (p : Prepared) (verdicts : List Verdict) → IsReady p → AreVerdicts p verdicts
    → ReportFits p verdicts
    → counts_judged p (file_lines report_file (prove_text p verdicts)) ≡ Ok (counts_of verdicts)
unfolding counts_judged
text_accepted p verdicts ready right read =
    ap counts_or_line
    (report_accepted p.project.rules p.project.tables p.project.objects p.ranges verdicts
    ready.formed ready.closed read.names
    (entries_read p.project.rules p.project.tables p.project.objects p.ranges p.ranges.questions
    verdicts ready.formed ready.closed read.inputs right read.entries) right)

-- ---- the stages
-- a stage whose file is accepted comes to what is next
accepted_judged : {A : Type 0} (kind : FileKind) (b : Bool) (long : Outcome)
    (answer : Result A (List ℕ)) (next : A → Option Outcome) (value : A)
    → cond b None (result_ok answer) ≡ Some value
    → cond b (Some long) (judged kind answer next) ≡ next value
accepted_judged kind true long answer next value is = absurd (none-some value is)
accepted_judged kind false long (Ok one) next value is = ap next (same_Some one value is)
accepted_judged kind false long (Err line) next value is = absurd (none-some value is)

-- what comes of a value that is known
known_value : {A B : Type 0} (next : A → Option B) (known : Option A) (gives : B)
    → option_and_then next known ≡ Some gives
    → (value : A) × (known ≡ Some value) × (next value ≡ Some gives)
known_value next None gives is = absurd (none-some gives is)
known_value next (Some value) gives is = (value, refl, is)

to_report : (report first second : Option (List ℕ)) (p : Prepared)
    → option_and_then
    (λ project. option_and_then (accepted ranges_file (ranges_judged project)) second)
    (option_and_then (accepted input_file project_judged) first) ≡ Some p
    → stage input_file project_judged (after_input second report) first ≡ after_ranges report p
to_report report None second p is = absurd (none-some p is)
to_report report (Some bytes) None p is =
    let gives = known_value (λ project. None) (accepted input_file project_judged bytes) p is in
    absurd (none-some p gives.2)
to_report report (Some bytes) (Some more) p is =
    let gives = known_value (λ project. accepted ranges_file (ranges_judged project) more)
    (accepted input_file project_judged bytes) p is in
    let project = gives.0 in
    accepted_judged input_file (nat_lt input_file.budget (length bytes)) (too_long input_file)
    (project_judged (file_lines input_file bytes)) (after_input (Some more) report) project gives.1
    ∙ accepted_judged ranges_file (nat_lt ranges_file.budget (length more)) (too_long ranges_file)
    (ranges_judged project (file_lines ranges_file more)) (after_ranges report) p gives.2

within : (most long : ℕ) → long ≤ most → nat_lt most long ≡ false
within most long h = grind (arith, nat_tests)

report_stage : (p : Prepared) (verdicts : List Verdict) (known : Option (List ℕ)) → IsReady p
    → AreVerdicts p verdicts → ReportFits p verdicts → known ≡ Some (prove_text p verdicts)
    → length (prove_text p verdicts) ≤ 268435456
    → after_ranges known p ≡ Some (verified (counts_of verdicts))
report_stage p verdicts known ready right read is short =
    let text = prove_text p verdicts in
    ap (λ one. after_ranges one p) is
    ∙ ap (λ b. cond b (Some (too_long report_file)) (judged report_file
    (counts_judged p (file_lines report_file text)) (λ counts. Some (verified counts))))
    (within 268435456 (length text) short)
    ∙ ap (λ answer. judged report_file answer (λ counts. Some (verified counts)))
    (text_accepted p verdicts ready right read)

pub report_verified : (held : List ℕ → Option (List ℕ)) (input ranges report : List ℕ)
    (verdicts : List Verdict) (p : Prepared) → asked_project held input ranges ≡ Some p
    → IsReady p → AreVerdicts p verdicts → ReportFits p verdicts
    → held report ≡ Some (prove_text p verdicts) → length (prove_text p verdicts) ≤ 268435456
    → verify_outcome held input ranges report ≡ Some (verified (counts_of verdicts))
report_verified held input ranges report verdicts p asked ready right read is short =
    to_report (held report) (held input) (held ranges) p asked
    ∙ report_stage p verdicts (held report) ready right read is short
