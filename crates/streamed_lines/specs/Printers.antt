-- What a printer answers to each line, and what a trace that is streamed leaves.
use Rattle.std.specs.Prelude.{◌≡◌, ◌⊎◌, ℕ, ◌+◌, List, [], ◌∷◌, ◌++◌, ⊤}
use Rattle.std.specs.Prelude.{Option, None, Some, IfSome, Result, Ok, Err}
use Rattle.std.specs.Io.KnownBytes.{Appends, IsAtEnd}
use Rattle.byte_edge.specs.Devices.{AppendsPrefix, CountIncreased, UnchangedExcept}
use Rattle.byte_edge.specs.Lines.{LineEvent}
use Rattle.command_outputs.specs.Commands.{CountsUnchanged, IsInterrupted}
use Rattle.command_outputs.specs.Messages.{too_long_line}
use Rattle.command_outputs.specs.declared.complaint.Complaint.{Complaint}
use Rattle.command_outputs.specs.declared.complaint.Complaint.TheVariants.{Refused, TooLong}
use Rattle.command_outputs.specs.declared.complaint.Complaint.TheVariants.{ReadFailed, WriteFailed}
use Rattle.command_outputs.specs.declared.complaint.Complaint.TheVariants.{OutOfMemory}
use Rattle.command_outputs.specs.declared.completion.Completion.{Completion}
use Rattle.command_outputs.specs.declared.completion.Completion.TheVariants.{Done}
use Rattle.command_outputs.specs.declared.role.Role.TheVariants.{Trace}
use Rattle.streamed_lines.specs.Streams.{Printed, ends, prefixed, streamed, text_of_taken}
use Rattle.streamed_lines.specs.Streams.{trace_events}
use Rattle.streamed_lines.specs.declared.line_printer.PrintEnd.{PrintEnd}
use Rattle.streamed_lines.specs.declared.line_printer.PrintEnd.TheVariants as print_end

-- ---- a printer
-- the line adds this text, whatever lines come after it
pub record AddsText (print_old print_new : ℕ → List LineEvent → Printed) (line : LineEvent)
    (number : ℕ) (text_old text_new : List ℕ) : Type 0 where
  pub text : List ℕ
  pub added : text_new ≡ text_old ++ text
  pub printed : (later : List LineEvent)
      → print_old number (line ∷ later) ≡ prefixed text (print_new (number + 1) later)

-- the line ends the text with this message, whatever lines come after it
abbrev pub EndsAt : (ℕ → List LineEvent → Printed) → LineEvent → ℕ → List ℕ → Type 0
EndsAt print line number message =
    (later : List LineEvent) → print number (line ∷ later) ≡ ends (Some message)

-- the answer to a line
abbrev pub PrintsLine : (ℕ → List LineEvent → Printed) → (ℕ → List LineEvent → Printed)
    → LineEvent → ℕ → List ℕ → List ℕ → Result (Unit {0}) PrintEnd → Type 0
PrintsLine print_old print_new line number text_old text_new (Ok done) =
    AddsText print_old print_new line number text_old text_new
PrintsLine print_old print_new line number text_old text_new (Err (print_end.Refused message)) =
    (text_new ≡ text_old) × EndsAt print_old line number message
PrintsLine print_old print_new line number text_old text_new (Err print_end.NoMemory) = ⊤

-- the answer to a line that is refused
abbrev pub RefusesLine : (ℕ → List LineEvent → Printed) → LineEvent → ℕ → PrintEnd → Type 0
RefusesLine print line number (print_end.Refused message) = EndsAt print line number message
RefusesLine print line number print_end.NoMemory = ⊤

-- the answer to the end of the lines
abbrev pub EndsLines : (ℕ → List LineEvent → Printed) → ℕ → Result (Unit {0}) PrintEnd → Type 0
EndsLines print number (Ok done) = print number [] ≡ ends None
EndsLines print number (Err (print_end.Refused message)) = print number [] ≡ ends (Some message)
EndsLines print number (Err print_end.NoMemory) = ⊤

-- ---- a trace
-- what each answer says where these are the bytes of the trace: its whole text is printed, or a
-- prefix where a device failed or memory was refused
abbrev pub PrintsFile : (List LineEvent → Printed) → List ℕ → Option (List ℕ) → Option (List ℕ)
    → Option (List ℕ) → Option (List ℕ) → Result Completion Complaint → Type 0
PrintsFile print trace slot_was slot_now was now (Ok completion) =
    ((print (trace_events trace)).message ≡ None) × (completion ≡ Done)
    × Appends was now (print (trace_events trace)).text
PrintsFile print trace slot_was slot_now was now (Err (Refused message)) =
    ((print (trace_events trace)).message ≡ Some message)
    × Appends was now (print (trace_events trace)).text
PrintsFile print trace slot_was slot_now was now (Err (TooLong r)) =
    ((print (trace_events trace)).message ≡ Some (too_long_line r))
    × Appends was now (print (trace_events trace)).text
PrintsFile print trace slot_was slot_now was now (Err (ReadFailed r)) =
    IsInterrupted (streamed (print (trace_events trace)) (text_of_taken print trace))
    slot_was slot_now was now
PrintsFile print trace slot_was slot_now was now (Err WriteFailed) =
    AppendsPrefix was now (print (trace_events trace)).text
PrintsFile print trace slot_was slot_now was now (Err OutOfMemory) =
    AppendsPrefix was now (print (trace_events trace)).text

-- what each answer says of any trace: it was read to its end, or the complaint names it
abbrev pub EndsStream : {T : Type 0} → (ℕ → Option (List ℕ)) → Result T Complaint → Type 0
EndsStream left_now (Ok value) = IsAtEnd (left_now 1)
EndsStream left_now (Err (Refused message)) = ⊤
EndsStream left_now (Err (TooLong r)) = r ≡ Trace
EndsStream left_now (Err (ReadFailed r)) = r ≡ Trace
EndsStream left_now (Err WriteFailed) = ⊤
EndsStream left_now (Err OutOfMemory) = ⊤

-- the counts of faults, by the answer
abbrev pub StreamCounts : {T : Type 0} → (ℕ → ℕ) → (ℕ → ℕ) → ℕ → ℕ → Result T Complaint → Type 0
StreamCounts fw fn ow on (Ok value) = CountsUnchanged fw fn ow on
StreamCounts fw fn ow on (Err (Refused message)) = CountsUnchanged fw fn ow on
StreamCounts fw fn ow on (Err (TooLong r)) = CountsUnchanged fw fn ow on
StreamCounts fw fn ow on (Err (ReadFailed r)) = CountIncreased (fw 1) (fn 1)
StreamCounts fw fn ow on (Err WriteFailed) = CountIncreased ow on
StreamCounts fw fn ow on (Err OutOfMemory) = CountsUnchanged fw fn ow on

-- what a trace that is streamed leaves
pub record StreamsTrace (print : List LineEvent → Printed) (held : Option (List ℕ))
    (open_was open_now : ℕ → Type 0) (left_was left_now : ℕ → Option (List ℕ))
    (faults_was faults_now : ℕ → ℕ) (out_was out_now : Option (List ℕ))
    (out_faults_was out_faults_now : ℕ) (result : Result Completion Complaint) : Type 0 where
  pub prints : IfSome held
      (λ trace. PrintsFile print trace (left_was 1) (left_now 1) out_was out_now result)
  pub ends : EndsStream left_now result
  pub opened : open_now 1 ⊎ Appends out_was out_now []
  pub stays_open : (k : ℕ) → open_was k → open_now k
  pub other_slots : UnchangedExcept 1 left_was left_now
  pub other_counts : UnchangedExcept 1 faults_was faults_now
  pub counts : StreamCounts faults_was faults_now out_faults_was out_faults_now result
