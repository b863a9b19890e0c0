-- What is printed and not yet written.
use Rattle.std.specs.Prelude.{◌≡◌, ◌⊎◌, ℕ, ◌+◌, Bool, true, false, List, ◌++◌, take}
use Rattle.std.specs.Prelude.{Option, None, Some, Result, Ok, Err}
use Rattle.std.specs.Io.KnownBytes.{Appends}
use Rattle.byte_edge.specs.Devices.{AppendsPrefix, CountIncreased, UnchangedExcept}
use Rattle.byte_edge.specs.Lines.{LineEvent, newlines}
use Rattle.command_outputs.specs.Messages.{too_long_line}
use Rattle.command_outputs.specs.declared.complaint.Complaint.{Complaint}
use Rattle.command_outputs.specs.declared.complaint.Complaint.TheVariants.{Refused, TooLong}
use Rattle.command_outputs.specs.declared.complaint.Complaint.TheVariants.{ReadFailed, WriteFailed}
use Rattle.command_outputs.specs.declared.complaint.Complaint.TheVariants.{OutOfMemory}
use Rattle.command_outputs.specs.declared.completion.Completion.{Completion}
use Rattle.command_outputs.specs.declared.completion.Completion.TheVariants.{Done}
use Rattle.streamed_lines.specs.Printers.{StreamCounts}
use Rattle.streamed_lines.specs.Streams.{Printed}

-- a front of what waited was written
pub record Moves (old new : List ℕ) (was now : Option (List ℕ)) : Type 0 where
  pub moved : List ℕ
  pub is : old ≡ moved ++ new
  pub written : Appends was now moved

-- a front of the text was written, and the rest waits
pub record Holding (was now : Option (List ℕ)) (waiting text : List ℕ) : Type 0 where
  pub sent : List ℕ
  pub written : Appends was now sent
  pub is : text ≡ sent ++ waiting

-- a read failed: what is written or waits is the text of the lines whose LF was taken, where so
-- many LF lay ahead and these bytes are left
pub record WaitsTaken (print : List LineEvent → Printed) (lines : List LineEvent) (ahead : ℕ)
    (left : List ℕ) (was now : Option (List ℕ)) (waiting : List ℕ) : Type 0 where
  pub count : ℕ
  pub taken : count + newlines left ≡ ahead
  pub holding : Holding was now waiting (print (take count lines)).text
  pub rest : List ℕ
  pub is : (print lines).text ≡ (print (take count lines)).text ++ rest

-- the text ends with this message; it is written or waits
pub record EndsWaiting (print : Printed) (message : Option (List ℕ)) (was now : Option (List ℕ))
    (waiting : List ℕ) : Type 0 where
  pub ends : print.message ≡ message
  pub holding : Holding was now waiting print.text

-- what each answer of the lines says, where these lines lay ahead
abbrev pub Waits : (List LineEvent → Printed) → List LineEvent → ℕ → List ℕ
    → Option (List ℕ) → Option (List ℕ) → List ℕ → Result (Unit {0}) Complaint → Type 0
Waits print lines ahead left was now waiting (Ok done) =
    EndsWaiting (print lines) None was now waiting
Waits print lines ahead left was now waiting (Err (Refused message)) =
    EndsWaiting (print lines) (Some message) was now waiting
Waits print lines ahead left was now waiting (Err (TooLong r)) =
    EndsWaiting (print lines) (Some (too_long_line r)) was now waiting
Waits print lines ahead left was now waiting (Err (ReadFailed r)) =
    WaitsTaken print lines ahead left was now waiting
Waits print lines ahead left was now waiting (Err WriteFailed) =
    AppendsPrefix was now (print lines).text
Waits print lines ahead left was now waiting (Err OutOfMemory) =
    AppendsPrefix was now (print lines).text

-- a read failed, and what was printed is written
pub record PrintsTaken (print : List LineEvent → Printed) (lines : List LineEvent) (ahead : ℕ)
    (left : List ℕ) (was now : Option (List ℕ)) : Type 0 where
  pub count : ℕ
  pub taken : count + newlines left ≡ ahead
  pub written : Appends was now (print (take count lines)).text
  pub prefix : AppendsPrefix was now (print lines).text

-- the same after what waits was written
abbrev pub PrintsLines : (List LineEvent → Printed) → List LineEvent → ℕ → List ℕ
    → Option (List ℕ) → Option (List ℕ) → Result Completion Complaint → Type 0
PrintsLines print lines ahead left was now (Ok completion) =
    ((print lines).message ≡ None) × (completion ≡ Done) × Appends was now (print lines).text
PrintsLines print lines ahead left was now (Err (Refused message)) =
    ((print lines).message ≡ Some message) × Appends was now (print lines).text
PrintsLines print lines ahead left was now (Err (TooLong r)) =
    ((print lines).message ≡ Some (too_long_line r)) × Appends was now (print lines).text
PrintsLines print lines ahead left was now (Err (ReadFailed r)) =
    PrintsTaken print lines ahead left was now
PrintsLines print lines ahead left was now (Err WriteFailed) =
    AppendsPrefix was now (print lines).text
PrintsLines print lines ahead left was now (Err OutOfMemory) =
    AppendsPrefix was now (print lines).text

-- what waits is still to be written after the lines ended so
abbrev pub has_rest : Result (Unit {0}) Complaint → Bool
has_rest (Ok done) = true
has_rest (Err (Refused message)) = true
has_rest (Err (TooLong r)) = true
has_rest (Err (ReadFailed r)) = true
has_rest (Err WriteFailed) = false
has_rest (Err OutOfMemory) = false

-- it was then written, and else nothing was
abbrev pub WritesRest : Bool → List ℕ → Option (List ℕ) → Option (List ℕ) → Type 0
WritesRest true waiting was now = Appends was now waiting
WritesRest false waiting was now = now ≡ was

-- how the command ends after the lines ended so
abbrev pub finished : Result (Unit {0}) Complaint → Result Completion Complaint
finished (Ok done) = Ok Done
finished (Err complaint) = Err complaint

-- what waited was written and the command ends as the lines ended, or the write failed
abbrev pub Finishes : List ℕ → Result (Unit {0}) Complaint → Option (List ℕ) → Option (List ℕ)
    → ℕ → ℕ → Result Completion Complaint → Type 0
Finishes waiting ended was now faults_was faults_now result =
    ((result ≡ finished ended) × WritesRest (has_rest ended) waiting was now
    × (faults_now ≡ faults_was))
    ⊎ ((has_rest ended ≡ true) × (result ≡ Err WriteFailed) × AppendsPrefix was now waiting
    × CountIncreased faults_was faults_now)

-- the answer is that a write failed
abbrev pub is_write_failed : Result (Unit {0}) Complaint → Bool
is_write_failed (Ok done) = false
is_write_failed (Err (Refused message)) = false
is_write_failed (Err (TooLong r)) = false
is_write_failed (Err (ReadFailed r)) = false
is_write_failed (Err WriteFailed) = true
is_write_failed (Err OutOfMemory) = false

-- the output's count of faults: it increased where a write failed, and is else as it was
abbrev pub OutCount : Bool → ℕ → ℕ → Type 0
OutCount true was now = CountIncreased was now
OutCount false was now = now ≡ was

-- what the calls of the files and of the output leave
pub record StreamCalls (open_was open_now : ℕ → Type 0)
    (left_was left_now : ℕ → Option (List ℕ)) (faults_was faults_now : ℕ → ℕ)
    (out_faults_was out_faults_now : ℕ) (result : Result Completion Complaint) : Type 0 where
  pub stays_open : (k : ℕ) → open_was k → open_now k
  pub other_slots : UnchangedExcept 1 left_was left_now
  pub other_counts : UnchangedExcept 1 faults_was faults_now
  pub counts : StreamCounts faults_was faults_now out_faults_was out_faults_now result
