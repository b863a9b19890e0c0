-- A file as a stage: its lines are read, and then judged.
use Rattle.std.proofs.Common.{◌≡◌, ℕ, ◌≤◌, Bool, false, List, length, Option}
use Rattle.std.proofs.Common.{Result, Ok, Err, OnOk, refl, sym, subst}
use Rattle.std.proofs.lemmas.Option.{IfSome_then}
use Rattle.std.specs.Io.KnownBytes.{IsAtEnd}
use Rattle.byte_edge.specs.Devices.{IsCallOn}
use Rattle.command_outputs.specs.Outcomes.{file_lines}
use Rattle.command_outputs.specs.Steps.{EndsStage, JudgesFile, PassesStage, every_file}
use Rattle.command_outputs.specs.Steps.{is_read_failed}
use Rattle.command_outputs.specs.declared.complaint.Complaint.{Complaint}
use Rattle.command_outputs.specs.declared.complaint.Complaint.TheVariants.{Refused, TooLong}
use Rattle.command_outputs.specs.declared.complaint.Complaint.TheVariants.{ReadFailed, WriteFailed}
use Rattle.command_outputs.specs.declared.complaint.Complaint.TheVariants.{OutOfMemory}
use Rattle.command_outputs.specs.declared.file_kind.FileKind.{FileKind}
use Rattle.inp_text.specs.Sections.{Line}
use Rattle.input_check.specs.InputRefusals.{Judges}
use Rattle.whole_lines.specs.Reading.{as_read}

-- ---- the lines could not be read
unread_judges : {A T : Type 0} (kind : FileKind) (judge : List Line → Result A (List ℕ))
    (view : T → A) (bytes : List ℕ) (c : Complaint)
    → JudgesFile kind every_file as_read bytes (Err c)
    → JudgesFile kind judge view bytes (Err c)
unread_judges kind judge view bytes (Refused line) judges =
    absurd (let accepted : Ok (file_lines kind bytes) ≡ Err line = judges.1 in cc)
unread_judges kind judge view bytes (TooLong r) judges = judges
unread_judges kind judge view bytes (ReadFailed r) judges = tt
unread_judges kind judge view bytes WriteFailed judges = absurd judges
unread_judges kind judge view bytes OutOfMemory judges = tt

unread_ends : (S T : Type 0) (kind : FileKind) (left_now : ℕ → Option (List ℕ)) (c : Complaint)
    → EndsStage {T = S} kind left_now (Err c) → EndsStage {T = T} kind left_now (Err c)
unread_ends S T kind left_now (Refused line) ends = ends
unread_ends S T kind left_now (TooLong r) ends = ends
unread_ends S T kind left_now (ReadFailed r) ends = ends
unread_ends S T kind left_now WriteFailed ends = ends
unread_ends S T kind left_now OutOfMemory ends = ends

same_failure : (S T : Type 0) (c : Complaint)
    → is_read_failed {T = S} (Err c) ≡ is_read_failed {T = T} (Err c)
same_failure S T (Refused line) = refl
same_failure S T (TooLong r) = refl
same_failure S T (ReadFailed r) = refl
same_failure S T WriteFailed = refl
same_failure S T OutOfMemory = refl

pub unread_stage : {A T : Type 0} {open_was open_now : ℕ → Type 0}
    {held_was held_now : List ℕ → Option (List ℕ)} {left_was left_now : ℕ → Option (List ℕ)}
    {faults_was faults_now : ℕ → ℕ}
    → (kind : FileKind) (judge : List Line → Result A (List ℕ)) (view : T → A)
    (held : Option (List ℕ)) (c : Complaint)
    → PassesStage kind every_file as_read held open_was open_now held_was held_now
    left_was left_now faults_was faults_now (Err c)
    → PassesStage kind judge view held open_was open_now held_was held_now
    left_was left_now faults_was faults_now (Err c)
unread_stage {T = T} {open_was = open_was} {open_now = open_now} {held_was = held_was}
    {held_now = held_now} {left_was = left_was} {left_now = left_now} {faults_was = faults_was}
    {faults_now = faults_now}
    kind judge view held c passes =
    let S : Type 0 = List Line in
    let P : Bool → Type 0 = λ fails. IsCallOn kind.slot fails open_was open_now held_was held_now
    left_was left_now faults_was faults_now in
    record {
      judges = IfSome_then held passes.judges
          (λ bytes judges. unread_judges kind judge view bytes c judges);
      ends = unread_ends S T kind left_now c passes.ends;
      opened = tt;
      call = subst P (same_failure S T c) passes.call;
    }

-- ---- the lines that were read are judged
file_judges : {A T : Type 0} (kind : FileKind) (judge : List Line → Result A (List ℕ))
    (view : T → A) (bytes : List ℕ) (result : Result T Complaint) → length bytes ≤ kind.budget
    → Judges (judge (file_lines kind bytes)) view result → JudgesFile kind judge view bytes result
file_judges kind judge view bytes (Ok value) within judges = (within, judges)
file_judges kind judge view bytes (Err (Refused line)) within judges = (within, judges)
file_judges kind judge view bytes (Err (TooLong r)) within judges = absurd judges
file_judges kind judge view bytes (Err (ReadFailed r)) within judges = absurd judges
file_judges kind judge view bytes (Err WriteFailed) within judges = absurd judges
file_judges kind judge view bytes (Err OutOfMemory) within judges = tt

-- a judgement ends as its stage: the file was read to its end
judged_ends : {A T : Type 0} (kind : FileKind) (left_now : ℕ → Option (List ℕ))
    (due : Result A (List ℕ)) (view : T → A) (result : Result T Complaint)
    → IsAtEnd (left_now kind.slot) → Judges due view result → EndsStage kind left_now result
judged_ends kind left_now due view (Ok value) at_end judges = at_end
judged_ends kind left_now due view (Err (Refused line)) at_end judges = at_end
judged_ends kind left_now due view (Err (TooLong r)) at_end judges = absurd judges
judged_ends kind left_now due view (Err (ReadFailed r)) at_end judges = absurd judges
judged_ends kind left_now due view (Err WriteFailed) at_end judges = absurd judges
judged_ends kind left_now due view (Err OutOfMemory) at_end judges = tt

judged_failure : {A T : Type 0} (due : Result A (List ℕ)) (view : T → A)
    (result : Result T Complaint) → Judges due view result → is_read_failed result ≡ false
judged_failure due view (Ok value) judges = refl
judged_failure due view (Err (Refused line)) judges = refl
judged_failure due view (Err (TooLong r)) judges = absurd judges
judged_failure due view (Err (ReadFailed r)) judges = absurd judges
judged_failure due view (Err WriteFailed) judges = absurd judges
judged_failure due view (Err OutOfMemory) judges = refl

judged_opened : {T : Type 0} (opened : Type 0) (result : Result T Complaint) → opened
    → OnOk result opened
judged_opened opened (Ok value) is = is
judged_opened opened (Err c) is = tt

pub judged_stage : {A T : Type 0} {open_was open_now : ℕ → Type 0}
    {held_was held_now : List ℕ → Option (List ℕ)} {left_was left_now : ℕ → Option (List ℕ)}
    {faults_was faults_now : ℕ → ℕ}
    → (kind : FileKind) (judge : List Line → Result A (List ℕ)) (view : T → A)
    (held : Option (List ℕ)) (lines : List Line) (result : Result T Complaint)
    → PassesStage kind every_file as_read held open_was open_now held_was held_now
    left_was left_now faults_was faults_now (Ok lines)
    → Judges (judge lines) view result
    → PassesStage kind judge view held open_was open_now held_was held_now
    left_was left_now faults_was faults_now result
judged_stage {open_was = open_was} {open_now = open_now} {held_was = held_was}
    {held_now = held_now} {left_was = left_was} {left_now = left_now} {faults_was = faults_was}
    {faults_now = faults_now}
    kind judge view held lines result passes judges =
    let P : Bool → Type 0 = λ fails. IsCallOn kind.slot fails open_was open_now held_was held_now
    left_was left_now faults_was faults_now in
    let Q : List Line → Type 0 = λ file. Judges (judge file) view result in
    record {
      judges = IfSome_then held passes.judges
          (λ bytes read.
          let same : lines ≡ file_lines kind bytes =
          (let e : Ok (file_lines kind bytes) ≡ Ok lines = read.1 in cc) in
          file_judges kind judge view bytes result read.0 (subst Q same judges));
      ends = judged_ends kind left_now (judge lines) view result passes.ends judges;
      opened = judged_opened (open_now kind.slot) result passes.opened;
      call = subst P (sym (judged_failure (judge lines) view result judges)) passes.call;
    }
