-- What a run comes to, as a function of what its files hold: the stages of a command.
use Rattle.std.specs.Prelude.{ℕ, ◌+◌, nat_lt, if◌then◌else◌, List, [], map, length}
use Rattle.std.specs.Prelude.{Option, None, Some, Result, Ok, Err}
use Rattle.byte_edge.specs.Lines.{lines, capped}
use Rattle.command_outputs.specs.Messages.{too_long_line}
use Rattle.command_outputs.specs.declared.file_kind.FileKind.{FileKind}
use Rattle.command_outputs.specs.declared.role.Role.TheVariants.{Input, Trace, Ranges, Report}
use Rattle.command_outputs.specs.declared.status.Status.{Status}
use Rattle.command_outputs.specs.declared.status.Status.TheVariants.{Refused, Usage}

-- How a run ends. The files of a command are opened in the order of their slots, from slot 0 on.
pub record Outcome : Type 0 where
  pub status : Status
  -- the whole text on the output
  pub output : List ℕ
  -- what is said on standard error
  pub message : List ℕ
  -- how many files are opened, and how many of these are read to their end
  pub opened : ℕ
  pub ended : ℕ
  -- what stands on the output where a read fails and these bytes are left of the second file;
  -- None for a command that writes at its end only
  pub partial : Option (List ℕ → List ℕ)

-- the words are no command: the usage is said, and no file is opened
abbrev pub usage_outcome : List ℕ → Outcome
usage_outcome usage = record {
  status = Usage;
  output = [];
  message = usage;
  opened = 0;
  ended = 0;
  partial = None;
}

-- so many files are read to their end, and the whole text is written
abbrev pub written : ℕ → Status → List ℕ → Outcome
written count status text = record {
  status = status;
  output = text;
  message = [];
  opened = count;
  ended = count;
  partial = None;
}

-- a file is read to its end and refused with this line
abbrev pub refused : FileKind → List ℕ → Outcome
refused kind line = record {
  status = Refused;
  output = [];
  message = line;
  opened = kind.slot + 1;
  ended = kind.slot + 1;
  partial = None;
}

-- a file has more bytes than its limit
abbrev pub too_long : FileKind → Outcome
too_long kind = record {
  status = Refused;
  output = [];
  message = too_long_line kind.role;
  opened = kind.slot + 1;
  ended = kind.slot;
  partial = None;
}

-- ---- stages
-- the lines of a file, each nothing where it is longer than its limit
abbrev pub file_lines : FileKind → List ℕ → List (Option (List ℕ))
file_lines kind bytes = map (capped kind.limit) (lines bytes)

-- a file that was judged: what is to come, or its refusal
abbrev pub judged : {A : Type 0} → FileKind → Result A (List ℕ) → (A → Option Outcome)
    → Option Outcome
judged kind (Ok value) next = next value
judged kind (Err line) next = Some (refused kind line)

-- a stage over these bytes: the file is read to its end and judged
abbrev pub stage_of : {A : Type 0} → FileKind → (List (Option (List ℕ)) → Result A (List ℕ))
    → (A → Option Outcome) → List ℕ → Option Outcome
stage_of kind judge next bytes =
    if nat_lt kind.budget (length bytes)
    then Some (too_long kind)
    else judged kind (judge (file_lines kind bytes)) next

-- A stage of a command, over what is held under the file's name. A judgement gives a value or the
-- line that refuses the file. Where it is not known what is held, neither is the outcome.
abbrev pub stage : {A : Type 0} → FileKind → (List (Option (List ℕ)) → Result A (List ℕ))
    → (A → Option Outcome) → Option (List ℕ) → Option Outcome
stage kind judge next None = None
stage kind judge next (Some bytes) = stage_of kind judge next bytes

-- ---- files
abbrev pub input_file : FileKind
input_file = record { role = Input; slot = 0; limit = 4096; budget = 67108864 }

abbrev pub trace_file : FileKind
trace_file = record { role = Trace; slot = 1; limit = 65536; budget = 4294967296 }

abbrev pub ranges_file : FileKind
ranges_file = record { role = Ranges; slot = 1; limit = 4096; budget = 67108864 }

abbrev pub report_file : FileKind
report_file = record { role = Report; slot = 2; limit = 8192; budget = 268435456 }
