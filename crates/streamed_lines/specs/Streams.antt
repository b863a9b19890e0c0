-- What is printed of the lines of a trace, and the outcome of a command that prints it.
use Rattle.std.specs.Prelude.{ℕ, ◌-◌, List, [], ◌++◌, take, Option, None, Some}
use Rattle.byte_edge.specs.Lines.{LineEvent, line_events, newlines, raw_lines}
use Rattle.command_outputs.specs.Outcomes.{Outcome}
use Rattle.command_outputs.specs.declared.status.Status.{Status}
use Rattle.command_outputs.specs.declared.status.Status.TheVariants.{Done, Refused}

-- what is printed of some lines, and the message that ends it; None where they are taken to their
-- end
pub record Printed : Type 0 where
  pub text : List ℕ
  pub message : Option (List ℕ)

-- nothing more is printed
abbrev pub ends : Option (List ℕ) → Printed
ends message = record { text = []; message = message }

-- a text, and then what is printed after it
abbrev pub prefixed : List ℕ → Printed → Printed
prefixed text rest = record { text = text ++ rest.text; message = rest.message }

-- the limits of a trace: bytes of a line, and of the whole
abbrev pub line_limit : ℕ
line_limit = 65536

abbrev pub trace_budget : ℕ
trace_budget = 4294967296

-- what a reader reports of the lines of a trace
abbrev pub trace_events : List ℕ → List LineEvent
trace_events bytes = line_events line_limit trace_budget (raw_lines bytes)

-- what is printed of the lines whose LF was taken, where these bytes are left of the trace
abbrev pub text_of_taken : (List LineEvent → Printed) → List ℕ → List ℕ → List ℕ
text_of_taken print trace rest =
    (print (take (newlines trace - newlines rest) (trace_events trace))).text

-- how a command ends that ends its text with this message: its status, what is said, and how many
-- of its two files were read to their end
abbrev pub stream_status : Option (List ℕ) → Status
stream_status None = Done
stream_status (Some message) = Refused

abbrev pub stream_message : Option (List ℕ) → List ℕ
stream_message None = []
stream_message (Some message) = message

abbrev pub stream_ended : Option (List ℕ) → ℕ
stream_ended None = 2
stream_ended (Some message) = 1

-- the outcome of a command that prints this of its trace, its second file, and that has printed so
-- much where bytes are left of it
abbrev pub streamed : Printed → (List ℕ → List ℕ) → Outcome
streamed printed partial = record {
  status = stream_status printed.message;
  output = printed.text;
  message = stream_message printed.message;
  opened = 2;
  ended = stream_ended printed.message;
  partial = Some partial;
}

-- the outcome over what is held under the trace's name
abbrev pub stream : (List LineEvent → Printed) → Option (List ℕ) → Option Outcome
stream print None = None
stream print (Some trace) = Some (streamed (print (trace_events trace)) (text_of_taken print trace))
