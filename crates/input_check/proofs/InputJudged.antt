-- The input file as a stage: its lines are read, and then judged.
use Rattle.std.proofs.Common.{◌≡◌, ℕ, ◌≤◌, List, Option, None, Some, IfSome, Result, Ok, Err}
use Rattle.std.proofs.Common.{false, length, reverse, refl, ◌∙◌, ap, subst}
use Rattle.std.specs.Io.KnownBytes.{IsAtEnd}
use Rattle.std.proofs.lemmas.List.{reverse-reverse}
use Rattle.command_outputs.specs.Outcomes.{file_lines, input_file}
use Rattle.command_outputs.specs.Steps.{EndsStage, JudgesFile, is_read_failed}
use Rattle.command_outputs.specs.declared.complaint.Complaint.{Complaint}
use Rattle.command_outputs.specs.declared.complaint.Complaint.TheVariants.{Refused, TooLong}
use Rattle.command_outputs.specs.declared.complaint.Complaint.TheVariants.{ReadFailed, WriteFailed}
use Rattle.command_outputs.specs.declared.complaint.Complaint.TheVariants.{OutOfMemory}
use Rattle.inp_text.specs.Sections.{Line}
use Rattle.inp_text.specs.declared.sections.Sections.{Sections}
use Rattle.input_reader.specs.Reading.{ReadsLines, ReadsSections}
use Rattle.rule_parser.specs.declared.project.Project.{Project}
use Rattle.input_check.specs.InputRefusals.{project_judged, project_read, Judges}

-- the lines could not be read: neither could the file be judged
pub unread_judges : (held : Option (List ℕ)) (c : Complaint) → ReadsSections held (Err c)
    → IfSome held (λ bytes. JudgesFile {T = Project} input_file project_judged project_read bytes (Err c))
unread_judges None c reads = tt
unread_judges (Some bytes) (Refused line) reads = absurd reads
unread_judges (Some bytes) (TooLong r) reads = reads
unread_judges (Some bytes) (ReadFailed r) reads = tt
unread_judges (Some bytes) WriteFailed reads = absurd reads
unread_judges (Some bytes) OutOfMemory reads = tt

pub unread_ends : (left_now : ℕ → Option (List ℕ)) (c : Complaint)
    → EndsStage {T = Sections} input_file left_now (Err c)
    → EndsStage {T = Project} input_file left_now (Err c)
unread_ends left_now (Refused line) ends = ends
unread_ends left_now (TooLong r) ends = ends
unread_ends left_now (ReadFailed r) ends = ends
unread_ends left_now WriteFailed ends = ends
unread_ends left_now OutOfMemory ends = ends

pub same_failure : (c : Complaint)
    → is_read_failed {T = Sections} (Err c) ≡ is_read_failed {T = Project} (Err c)
same_failure (Refused line) = refl
same_failure (TooLong r) = refl
same_failure (ReadFailed r) = refl
same_failure WriteFailed = refl
same_failure OutOfMemory = refl

-- the lines that were read are judged
judges_bytes : (bytes : List ℕ) (result : Result Project Complaint)
    → length bytes ≤ input_file.budget
    → Judges (project_judged (file_lines input_file bytes)) project_read result
    → JudgesFile input_file project_judged project_read bytes result
judges_bytes bytes (Ok project) within judges = (within, judges)
judges_bytes bytes (Err (Refused line)) within judges = (within, judges)
judges_bytes bytes (Err (TooLong r)) within judges = absurd judges
judges_bytes bytes (Err (ReadFailed r)) within judges = absurd judges
judges_bytes bytes (Err WriteFailed) within judges = absurd judges
judges_bytes bytes (Err OutOfMemory) within judges = tt

pub read_judges : (held : Option (List ℕ)) (sections : Sections) (result : Result Project Complaint)
    → (lines : ReadsLines held sections)
    → Judges (project_judged (reverse lines.earlier)) project_read result
    → IfSome held (λ bytes. JudgesFile input_file project_judged project_read bytes result)
read_judges None sections result lines judges = tt
read_judges (Some bytes) sections result lines judges =
    let same : reverse lines.earlier ≡ file_lines input_file bytes =
    ap reverse lines.of_file.1 ∙ reverse-reverse (file_lines input_file bytes) in
    let P : List Line → Type 0 = λ file. Judges (project_judged file) project_read result in
    judges_bytes bytes result lines.of_file.0 (subst P same judges)

-- a judgement ends as its stage: the file was read to its end
pub judged_ends : (left_now : ℕ → Option (List ℕ)) (due : Result Project (List ℕ))
    (result : Result Project Complaint) → IsAtEnd (left_now 0)
    → Judges due project_read result → EndsStage input_file left_now result
judged_ends left_now due (Ok project) at_end judges = at_end
judged_ends left_now due (Err (Refused line)) at_end judges = at_end
judged_ends left_now due (Err (TooLong r)) at_end judges = absurd judges
judged_ends left_now due (Err (ReadFailed r)) at_end judges = absurd judges
judged_ends left_now due (Err WriteFailed) at_end judges = absurd judges
judged_ends left_now due (Err OutOfMemory) at_end judges = tt

pub judged_failure : (due : Result Project (List ℕ)) (result : Result Project Complaint)
    → Judges due project_read result → is_read_failed result ≡ false
judged_failure due (Ok project) judges = refl
judged_failure due (Err (Refused line)) judges = refl
judged_failure due (Err (TooLong r)) judges = absurd judges
judged_failure due (Err (ReadFailed r)) judges = absurd judges
judged_failure due (Err WriteFailed) judges = absurd judges
judged_failure due (Err OutOfMemory) judges = refl
