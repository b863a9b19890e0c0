-- A file that could not be read to its end stops every judgement of it.
use Rattle.std.proofs.Common.{◌≡◌, ℕ, Bool, List, Option, Result, Ok, Err, refl, subst}
use Rattle.std.proofs.lemmas.Option.{IfSome_then}
use Rattle.std.specs.Prelude.{Vec}
use Rattle.std.specs.declared.alloc.Global.{Global}
use Rattle.byte_edge.specs.Devices.{IsCallOn}
use Rattle.command_outputs.specs.Outcomes.{file_lines}
use Rattle.command_outputs.specs.Steps.{EndsStage, JudgesFile, PassesStage, every_file, is_read_failed}
use Rattle.command_outputs.specs.Steps.{texts_read}
use Rattle.command_outputs.specs.declared.complaint.Complaint.{Complaint}
use Rattle.command_outputs.specs.declared.complaint.Complaint.TheVariants.{Refused, TooLong}
use Rattle.command_outputs.specs.declared.complaint.Complaint.TheVariants.{ReadFailed, WriteFailed}
use Rattle.command_outputs.specs.declared.complaint.Complaint.TheVariants.{OutOfMemory}
use Rattle.command_outputs.specs.declared.file_kind.FileKind.{FileKind}

unread_judges : {A T : Type 0} (kind : FileKind)
    (judge : List (Option (List ℕ)) → Result A (List ℕ)) (view : T → A) (bytes : List ℕ)
    (c : Complaint) → JudgesFile kind every_file texts_read bytes (Err c)
    → JudgesFile kind judge view bytes (Err c)
unread_judges kind judge view bytes (Refused line) judges =
    absurd (let accepted : Ok (file_lines kind bytes) ≡ Err line = judges.1 in cc)
unread_judges kind judge view bytes (TooLong r) judges = judges
unread_judges kind judge view bytes (ReadFailed r) judges = tt
unread_judges kind judge view bytes WriteFailed judges = absurd judges
unread_judges kind judge view bytes OutOfMemory judges = tt

unread_ends : (S T : Type 0) (kind : FileKind) (left_now : ℕ → Option (List ℕ)) (c : Complaint)
    → EndsStage {T = S} kind left_now (Err c) → EndsStage {T = T} kind left_now (Err c)
unread_ends S T kind left_now (Refused line) ends = ends
unread_ends S T kind left_now (TooLong r) ends = ends
unread_ends S T kind left_now (ReadFailed r) ends = ends
unread_ends S T kind left_now WriteFailed ends = ends
unread_ends S T kind left_now OutOfMemory ends = ends

same_failure : (S T : Type 0) (c : Complaint)
    → is_read_failed {T = S} (Err c) ≡ is_read_failed {T = T} (Err c)
same_failure S T (Refused line) = refl
same_failure S T (TooLong r) = refl
same_failure S T (ReadFailed r) = refl
same_failure S T WriteFailed = refl
same_failure S T OutOfMemory = refl

pub unread_stage : {A T : Type 0} {open_was open_now : ℕ → Type 0}
    {held_was held_now : List ℕ → Option (List ℕ)} {left_was left_now : ℕ → Option (List ℕ)}
    {faults_was faults_now : ℕ → ℕ}
    → (kind : FileKind) (judge : List (Option (List ℕ)) → Result A (List ℕ)) (view : T → A)
    (held : Option (List ℕ)) (c : Complaint)
    → PassesStage kind every_file texts_read held open_was open_now held_was held_now
    left_was left_now faults_was faults_now (Err c)
    → PassesStage kind judge view held open_was open_now held_was held_now
    left_was left_now faults_was faults_now (Err c)
unread_stage {T = T} {open_was = open_was} {open_now = open_now} {held_was = held_was} {held_now = held_now} {left_was = left_was} {left_now = left_now} {faults_was = faults_was} {faults_now = faults_now}
    kind judge view held c passes =
    let S : Type 0 = Vec (Option (Vec ℕ Global)) Global in
    let P : Bool → Type 0 = λ fails. IsCallOn kind.slot fails open_was open_now held_was held_now
    left_was left_now faults_was faults_now in
    record {
      judges = IfSome_then held passes.judges (λ bytes judges. unread_judges kind judge view bytes c judges);
      ends = unread_ends S T kind left_now c passes.ends;
      opened = tt;
      call = subst P (same_failure S T c) passes.call;
    }
