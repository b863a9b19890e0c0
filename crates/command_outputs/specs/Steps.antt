-- What the parts of a command leave: a file that is read to its end, a text that is written.
use Rattle.std.specs.Prelude.{◌≡◌, ◌⊎◌, ◌<◌, ◌≤◌, ℕ, Bool, true, false, List, length, ⊤}
use Rattle.std.specs.Prelude.{Option, IfSome, Result, Ok, Err, OnOk, Vec}
use Rattle.std.specs.Io.KnownBytes.{Appends, IsAtEnd}
use Rattle.std.specs.declared.alloc.Global.{Global}
use Rattle.byte_edge.specs.AllLines.{texts_of}
use Rattle.byte_edge.specs.Devices.{CountIncreased, AppendsPrefix, IsCallOn}
use Rattle.command_outputs.specs.Outcomes.{file_lines}
use Rattle.command_outputs.specs.Runs.{AreAtEnd}
use Rattle.command_outputs.specs.declared.complaint.Complaint.{Complaint}
use Rattle.command_outputs.specs.declared.complaint.Complaint.TheVariants.{Refused, TooLong}
use Rattle.command_outputs.specs.declared.complaint.Complaint.TheVariants.{ReadFailed, WriteFailed}
use Rattle.command_outputs.specs.declared.complaint.Complaint.TheVariants.{OutOfMemory}
use Rattle.command_outputs.specs.declared.completion.Completion.{Completion}
use Rattle.command_outputs.specs.declared.file_kind.FileKind.{FileKind}
use Rattle.command_outputs.specs.declared.status.Status.{Status}
use Rattle.command_outputs.specs.declared.status.Status.TheVariants.{Device}

-- the text was written whole, or the sink failed at it
abbrev pub Tells : List ℕ → Option (List ℕ) → Option (List ℕ) → ℕ → ℕ → Status → Status → Type 0
Tells text was now faults_was faults_now status result =
    ((result ≡ status) × Appends was now text × (faults_now ≡ faults_was))
    ⊎ ((result ≡ Device) × AppendsPrefix was now text × CountIncreased faults_was faults_now)

-- ---- a text
-- the text was written whole, and the command ends so; or the sink failed at it
abbrev pub WritesText : List ℕ → Completion → Option (List ℕ) → Option (List ℕ) → ℕ → ℕ
    → Result Completion Complaint → Type 0
WritesText text completion was now faults_was faults_now (Ok ends) =
    (ends ≡ completion) × Appends was now text × (faults_now ≡ faults_was)
WritesText text completion was now faults_was faults_now (Err WriteFailed) =
    AppendsPrefix was now text × CountIncreased faults_was faults_now
WritesText text completion was now faults_was faults_now (Err (Refused line)) = ⊥
WritesText text completion was now faults_was faults_now (Err (TooLong r)) = ⊥
WritesText text completion was now faults_was faults_now (Err (ReadFailed r)) = ⊥
WritesText text completion was now faults_was faults_now (Err OutOfMemory) = ⊥

-- ---- a file
-- the judgement that takes every file, and what it gives
abbrev pub every_file : List (Option (List ℕ)) → Result (List (Option (List ℕ))) (List ℕ)
every_file texts = Ok texts

-- the lines of a file as they were read
abbrev pub texts_read : Vec (Option (Vec ℕ Global)) Global → List (Option (List ℕ))
texts_read all = texts_of all.items

-- what each answer says where these bytes are held under the file's name; `view` is what a value
-- that is given stands for
abbrev pub JudgesFile : {A T : Type 0} → FileKind → (List (Option (List ℕ)) → Result A (List ℕ))
    → (T → A) → List ℕ → Result T Complaint → Type 0
JudgesFile kind judge view bytes (Ok value) =
    (length bytes ≤ kind.budget) × (judge (file_lines kind bytes) ≡ Ok (view value))
JudgesFile kind judge view bytes (Err (Refused line)) =
    (length bytes ≤ kind.budget) × (judge (file_lines kind bytes) ≡ Err line)
JudgesFile kind judge view bytes (Err (TooLong r)) = kind.budget < length bytes
JudgesFile kind judge view bytes (Err (ReadFailed r)) = ⊤
JudgesFile kind judge view bytes (Err WriteFailed) = ⊥
JudgesFile kind judge view bytes (Err OutOfMemory) = ⊤

-- what each answer says of any file: a file that is judged was read to its end, and a complaint
-- names this file
abbrev pub EndsStage : {T : Type 0} → FileKind → (ℕ → Option (List ℕ)) → Result T Complaint → Type 0
EndsStage kind left_now (Ok value) = IsAtEnd (left_now kind.slot)
EndsStage kind left_now (Err (Refused line)) = IsAtEnd (left_now kind.slot)
EndsStage kind left_now (Err (TooLong r)) = r ≡ kind.role
EndsStage kind left_now (Err (ReadFailed r)) = r ≡ kind.role
EndsStage kind left_now (Err WriteFailed) = ⊥
EndsStage kind left_now (Err OutOfMemory) = ⊤

-- the answer is that an open or a read failed
abbrev pub is_read_failed : {T : Type 0} → Result T Complaint → Bool
is_read_failed (Ok value) = false
is_read_failed (Err (Refused line)) = false
is_read_failed (Err (TooLong r)) = false
is_read_failed (Err (ReadFailed r)) = true
is_read_failed (Err WriteFailed) = false
is_read_failed (Err OutOfMemory) = false

-- what a stage leaves: its file was opened in its slot, read and judged
pub record PassesStage {A T : Type 0} (kind : FileKind)
    (judge : List (Option (List ℕ)) → Result A (List ℕ)) (view : T → A) (held : Option (List ℕ))
    (open_was open_now : ℕ → Type 0) (held_was held_now : List ℕ → Option (List ℕ))
    (left_was left_now : ℕ → Option (List ℕ)) (faults_was faults_now : ℕ → ℕ)
    (result : Result T Complaint) : Type 0 where
  pub judges : IfSome held (λ bytes. JudgesFile kind judge view bytes result)
  pub ends : EndsStage kind left_now result
  pub opened : OnOk result (open_now kind.slot)
  pub call : IsCallOn kind.slot (is_read_failed result) open_was open_now held_was held_now
      left_was left_now faults_was faults_now

-- so many files were opened one after another, read to their end and accepted; the slots after
-- them, the counts of faults and what is held under each name are as they were
pub record StagesPassed (count : ℕ) (open_now : ℕ → Type 0)
    (held_was held_now : List ℕ → Option (List ℕ)) (left_was left_now : ℕ → Option (List ℕ))
    (faults_was faults_now : ℕ → ℕ) : Type 0 where
  pub opened : (k : ℕ) → k < count → open_now k
  pub names : (name : List ℕ) → held_now name ≡ held_was name
  pub at_end : AreAtEnd count left_now
  pub others : (k : ℕ) → count ≤ k → left_now k ≡ left_was k
  pub counts : (k : ℕ) → faults_now k ≡ faults_was k
