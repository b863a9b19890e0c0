-- What `prove` asks and comes to, how many files it opens, and what its answers say of verdicts.
use Rattle.std.proofs.Common.{◌≡◌, ◌∙◌, ℕ, ◌≤◌, Bool, true, false, cond, List, [], length, nat_lt}
use Rattle.std.proofs.Common.{Option, None, Some, IfSome, Result, Ok, Err, refl, sym, ap, subst, arith}
use Rattle.std.proofs.lemmas.Bool.Decides.{nat_tests}
use Rattle.std.proofs.lemmas.Option.{none-some, same_Some}
use Rattle.std.specs.Prelude.{option_and_then, option_map}
use Rattle.std.specs.Result.{result_ok}
use Rattle.byte_edge.proofs.PublicLaws.{written_bytes-nothing}
use Rattle.command_outputs.specs.Outcomes.{Outcome, file_lines, judged, stage, too_long}
use Rattle.command_outputs.specs.Outcomes.{input_file, ranges_file}
use Rattle.command_outputs.specs.Steps.{EndsStage, JudgesFile, WritesText}
use Rattle.command_outputs.specs.declared.complaint.Complaint.{Complaint}
use Rattle.command_outputs.specs.declared.complaint.Complaint.TheVariants.{Refused, TooLong}
use Rattle.command_outputs.specs.declared.complaint.Complaint.TheVariants.{ReadFailed, WriteFailed}
use Rattle.command_outputs.specs.declared.complaint.Complaint.TheVariants.{OutOfMemory}
use Rattle.command_outputs.specs.declared.completion.Completion.{Completion}
use Rattle.command_outputs.specs.declared.file_kind.FileKind.{FileKind}
use Rattle.command_outputs.proofs.PublicLaws.{stage_outcomes-opens}
use Rattle.inp_text.specs.Sections.{Line}
use Rattle.input_check.specs.InputRefusals.{project_judged, project_read}
use Rattle.rule_parser.specs.declared.project.Project.{Project}
use Rattle.verdict_meaning.specs.declared.verdict.Verdict.{Verdict}
use Rattle.verdict_commands.specs.Preparing.{prepared_read, ranges_judged}
use Rattle.verdict_commands.specs.Proves.{AreVerdicts, Decides, accepted, asked_project, proved}
use Rattle.verdict_commands.specs.Proves.{prove_after_input, prove_outcome}
use Rattle.verdict_commands.specs.declared.prepared.Prepared.{Prepared}

-- ---- what is asked
accepted_value : {A : Type 0} (kind : FileKind) (judge : List Line → Result A (List ℕ))
    (bytes : List ℕ) (value : A) → length bytes ≤ kind.budget
    → judge (file_lines kind bytes) ≡ Ok value → accepted kind judge bytes ≡ Some value
accepted_value kind judge bytes value within is =
    let short : nat_lt kind.budget (length bytes) ≡ false = grind (arith, nat_tests) in
    ap (λ b. cond b None (result_ok (judge (file_lines kind bytes)))) short ∙ ap result_ok is

-- what holds of the value that a file gives holds of what it is known to give
of_value : {A : Type 0} (P : A → Type 0) (kind : FileKind) (judge : List Line → Result A (List ℕ))
    (known : Option (List ℕ)) (value : A)
    → IfSome known (λ bytes. (length bytes ≤ kind.budget)
    × (judge (file_lines kind bytes) ≡ Ok value))
    → P value → IfSome (option_and_then (accepted kind judge) known) P
of_value P kind judge None value judges holds = tt
of_value P kind judge (Some bytes) value judges holds =
    subst (λ gives. IfSome gives P)
    (sym (accepted_value kind judge bytes value judges.0 judges.1)) holds

-- the same where more comes of that value
of_next : {A B : Type 0} (P : B → Type 0) (next : A → Option B) (known : Option A)
    → IfSome known (λ value. IfSome (next value) P) → IfSome (option_and_then next known) P
of_next P next None holds = tt
of_next P next (Some value) holds = holds

pub of_asked : (P : Prepared → Type 0) (held : List ℕ → Option (List ℕ)) (input ranges : List ℕ)
    (project : Project) (prepared : Prepared)
    → IfSome (held input) (λ bytes. JudgesFile input_file project_judged project_read bytes
    (Ok project))
    → IfSome (held ranges) (λ bytes. JudgesFile ranges_file (ranges_judged project) prepared_read
    bytes (Ok prepared))
    → P prepared → IfSome (asked_project held input ranges) P
of_asked P held input ranges project prepared first second holds =
    let next : Project → Option Prepared =
    λ p. option_and_then (accepted ranges_file (ranges_judged p)) (held ranges) in
    of_next P next (option_and_then (accepted input_file project_judged) (held input))
    (of_value (λ p. IfSome (next p) P) input_file project_judged (held input) project first
    (of_value P ranges_file (ranges_judged project) (held ranges) prepared second holds))

-- ---- verdicts, by the answer
pub stopped_decides : (T : Type 0) (kind : FileKind) (left_now : ℕ → Option (List ℕ))
    (asked : Option Prepared) (was : Option (List ℕ)) (c : Complaint)
    → EndsStage {T = T} kind left_now (Err c) → Decides asked [] was was (Err c)
stopped_decides T kind left_now asked was (Refused line) ends = written_bytes-nothing was
stopped_decides T kind left_now asked was (TooLong r) ends = written_bytes-nothing was
stopped_decides T kind left_now asked was (ReadFailed r) ends = written_bytes-nothing was
stopped_decides T kind left_now asked was WriteFailed ends = absurd ends
stopped_decides T kind left_now asked was OutOfMemory ends = written_bytes-nothing was

pub written_decides : (asked : Option Prepared) (verdicts : List Verdict) (text : List ℕ)
    (completion : Completion) (was now : Option (List ℕ)) (faults_was faults_now : ℕ)
    (result : Result Completion Complaint)
    → WritesText text completion was now faults_was faults_now result
    → IfSome asked (λ p. AreVerdicts p verdicts) → Decides asked verdicts was now result
written_decides asked verdicts text completion was now fw fn (Ok ends) wrote right = right
written_decides asked verdicts text completion was now fw fn (Err (Refused line)) wrote right =
    absurd wrote
written_decides asked verdicts text completion was now fw fn (Err (TooLong r)) wrote right =
    absurd wrote
written_decides asked verdicts text completion was now fw fn (Err (ReadFailed r)) wrote right =
    absurd wrote
written_decides asked verdicts text completion was now fw fn (Err WriteFailed) wrote right = right
written_decides asked verdicts text completion was now fw fn (Err OutOfMemory) wrote right =
    absurd wrote

-- ---- outcomes
-- the ranges are opened after one file
pub prove_opens : (verdicts : List Verdict) (ranges : Option (List ℕ)) (p : Project)
    → IfSome (prove_after_input verdicts ranges p) (λ o. 1 ≤ o.opened)
prove_opens verdicts ranges p =
    stage_outcomes-opens 1 ranges_file (ranges_judged p)
    (λ prepared. Some (proved verdicts prepared)) ranges (omega arith)
    (λ prepared. omega arith)

-- two stages of one file open as many files, where those that come next do
same_judged : {A : Type 0} (kind : FileKind) (answer : Result A (List ℕ))
    (next other : A → Option Outcome)
    → ((value : A) → option_map (λ o. o.opened) (next value)
    ≡ option_map (λ o. o.opened) (other value))
    → option_map (λ o. o.opened) (judged kind answer next)
    ≡ option_map (λ o. o.opened) (judged kind answer other)
same_judged kind (Ok value) next other same = same value
same_judged kind (Err line) next other same = refl

same_limited : (b : Bool) (long : Outcome) (rest other : Option Outcome)
    → option_map (λ o. o.opened) rest ≡ option_map (λ o. o.opened) other
    → option_map (λ o. o.opened) (cond b (Some long) rest)
    ≡ option_map (λ o. o.opened) (cond b (Some long) other)
same_limited true long rest other same = refl
same_limited false long rest other same = same

same_stage : {A : Type 0} (kind : FileKind) (judge : List Line → Result A (List ℕ))
    (next other : A → Option Outcome) (known : Option (List ℕ))
    → ((value : A) → option_map (λ o. o.opened) (next value)
    ≡ option_map (λ o. o.opened) (other value))
    → option_map (λ o. o.opened) (stage kind judge next known)
    ≡ option_map (λ o. o.opened) (stage kind judge other known)
same_stage kind judge next other None same = refl
same_stage kind judge next other (Some bytes) same =
    let answer = judge (file_lines kind bytes) in
    same_limited (nat_lt kind.budget (length bytes)) (too_long kind)
    (judged kind answer next) (judged kind answer other)
    (same_judged kind answer next other same)

-- how many files are opened does not depend on the verdicts
pub same_opened : (held : List ℕ → Option (List ℕ)) (input ranges : List ℕ)
    (verdicts others : List Verdict)
    → option_map (λ o. o.opened) (prove_outcome held input ranges verdicts)
    ≡ option_map (λ o. o.opened) (prove_outcome held input ranges others)
same_opened held input ranges verdicts others =
    same_stage input_file project_judged (prove_after_input verdicts (held ranges))
    (prove_after_input others (held ranges)) (held input)
    (λ p. same_stage ranges_file (ranges_judged p) (λ prepared. Some (proved verdicts prepared))
    (λ prepared. Some (proved others prepared)) (held ranges) (λ prepared. refl))

-- a stage whose file is accepted comes to what is next
accepted_judged : {A : Type 0} (kind : FileKind) (b : Bool) (long : Outcome)
    (answer : Result A (List ℕ)) (next : A → Option Outcome) (value : A)
    → cond b None (result_ok answer) ≡ Some value
    → cond b (Some long) (judged kind answer next) ≡ next value
accepted_judged kind true long answer next value is = absurd (none-some value is)
accepted_judged kind false long (Ok one) next value is = ap next (same_Some one value is)
accepted_judged kind false long (Err line) next value is = absurd (none-some value is)

-- what comes of a value that is known
known_value : {A B : Type 0} (next : A → Option B) (known : Option A) (gives : B)
    → option_and_then next known ≡ Some gives
    → (value : A) × (known ≡ Some value) × (next value ≡ Some gives)
known_value next None gives is = absurd (none-some gives is)
known_value next (Some value) gives is = (value, refl, is)

asked_known : (verdicts : List Verdict) (first second : Option (List ℕ)) (p : Prepared)
    → option_and_then
    (λ project. option_and_then (accepted ranges_file (ranges_judged project)) second)
    (option_and_then (accepted input_file project_judged) first) ≡ Some p
    → stage input_file project_judged (prove_after_input verdicts second) first
    ≡ Some (proved verdicts p)
asked_known verdicts None second p is = absurd (none-some p is)
asked_known verdicts (Some bytes) None p is =
    let gives = known_value (λ project. None) (accepted input_file project_judged bytes) p is in
    absurd (none-some p gives.2)
asked_known verdicts (Some bytes) (Some more) p is =
    let gives = known_value (λ project. accepted ranges_file (ranges_judged project) more)
    (accepted input_file project_judged bytes) p is in
    let project = gives.0 in
    accepted_judged input_file (nat_lt input_file.budget (length bytes)) (too_long input_file)
    (project_judged (file_lines input_file bytes)) (prove_after_input verdicts (Some more))
    project gives.1
    ∙ accepted_judged ranges_file (nat_lt ranges_file.budget (length more)) (too_long ranges_file)
    (ranges_judged project (file_lines ranges_file more))
    (λ prepared. Some (proved verdicts prepared)) p gives.2

-- where it is known what is asked, the report of the verdicts is written
pub asked_outcome : (held : List ℕ → Option (List ℕ)) (input ranges : List ℕ)
    (verdicts : List Verdict) (p : Prepared) → asked_project held input ranges ≡ Some p
    → prove_outcome held input ranges verdicts ≡ Some (proved verdicts p)
asked_outcome held input ranges verdicts p is =
    asked_known verdicts (held input) (held ranges) p is
