-- The rows of a trace as a replay takes them: its first line is the header, and each further line
-- that has a record is a row. Rows are listed with the newest first.
use Rattle.std.specs.Prelude.{ℕ, ◌+◌, List, [], ◌∷◌, Option, None, Some, Result, Ok, Err, slice_get}
use Rattle.command_outputs.specs.Messages.{fault_line, stop_in_name_line, stop_in_rule_line}
use Rattle.command_outputs.specs.declared.place.BranchWord.{BranchWord}
use Rattle.command_outputs.specs.declared.place.BranchWord.TheVariants as branch_word
use Rattle.command_outputs.specs.declared.place.Place.TheVariants.{TraceLine}
use Rattle.command_outputs.specs.declared.place.StopWord.{StopWord}
use Rattle.command_outputs.specs.declared.place.StopWord.TheVariants as stop_word
use Rattle.object_index.specs.Objects.{Objects}
use Rattle.rule_types.specs.declared.action.Branch.{Branch}
use Rattle.rule_types.specs.declared.action.Branch.TheVariants.{Then, Otherwise}
use Rattle.rule_types.specs.declared.names.NameDef.{NameDef}
use Rattle.rule_types.specs.declared.row.Row.{Row}
use Rattle.rule_types.specs.declared.rules.Rules.{Rules}
use Rattle.rule_types.specs.declared.stop.RowStop.{RowStop}
use Rattle.rule_types.specs.declared.stop.RowStop.TheVariants as row_stopped
use Rattle.rule_types.specs.declared.stop.Stop.{Stop}
use Rattle.rule_types.specs.declared.stop.StopCause.{StopCause}
use Rattle.rule_types.specs.declared.stop.StopCause.TheVariants.{Overflow, ZeroDivisor}
use Rattle.rule_types.specs.declared.stop.StopPlace.{StopPlace}
use Rattle.rule_types.specs.declared.stop.StopPlace.TheVariants as place
use Rattle.rule_types.specs.Tables.{TableSet}
use Rattle.rule_meaning.specs.Reading.{Choice}
use Rattle.trace_csv.specs.Causes.{cause_name, cause_number}
use Rattle.trace_csv.specs.Columns.{Columns, header_of}
use Rattle.trace_csv.specs.Rows.{row_of}
use Rattle.trace_csv.specs.declared.fault.TraceCause.{TraceCause}
use Rattle.trace_csv.specs.declared.fault.TraceCause.TheVariants.{NoHeader, LineTooLong}
use Rattle.replay_text.specs.Ends.{name_of}
use Rattle.replay_text.specs.Replays.{moment_before, row_stop}

-- ---- what refuses a trace
-- the line that says a fault of a line
abbrev pub fault_said : ℕ → TraceCause → List ℕ
fault_said number cause = fault_line (TraceLine number) (cause_name cause) (cause_number cause) []

-- the words of a stop and of a branch
abbrev pub stop_reason : StopCause → StopWord
stop_reason Overflow = stop_word.Overflow
stop_reason ZeroDivisor = stop_word.ZeroDivisor

abbrev pub word_of_branch : Branch → BranchWord
word_of_branch Then = branch_word.Then
word_of_branch Otherwise = branch_word.Else

-- the line that says a stop on a line: an action stops by an overflow alone
abbrev pub stop_said_at : List NameDef → ℕ → StopCause → StopPlace → List ℕ
stop_said_at names number cause (place.Name name) =
    stop_in_name_line number (stop_reason cause) (name_of (slice_get names name))
stop_said_at names number cause (place.Action at) =
    stop_in_rule_line number (at.rule + 1) (word_of_branch at.branch) (at.action + 1)

abbrev pub stop_said : List NameDef → ℕ → Stop → List ℕ
stop_said names number stop = stop_said_at names number stop.cause stop.place

-- the stop that a row is answered with
abbrev pub stop_in : RowStop → Stop
stop_in (row_stopped.Stop stop) = stop
stop_in (row_stopped.Stopped stop) = stop

-- ---- the rows
-- a row on a line is taken, unless its reading stops
abbrev pub unless_stopped : List NameDef → ℕ → Option Stop → Result (List Row) (List ℕ)
    → Result (List Row) (List ℕ)
unless_stopped names number None rows = rows
unless_stopped names number (Some stop) rows = Err (stop_said names number stop)

-- the rows with the one that a line with this number is, behind older rows; a line without a record
-- is skipped
abbrev pub rows_with : Choice → Rules → TableSet → List Row → ℕ → Result (Option Row) TraceCause
    → (List Row → Result (List Row) (List ℕ)) → Result (List Row) (List ℕ)
rows_with choice x tables older number (Err cause) later = Err (fault_said number cause)
rows_with choice x tables older number (Ok None) later = later older
rows_with choice x tables older number (Ok (Some row)) later =
    unless_stopped x.names number (row_stop choice x tables older row) (later (row ∷ older))

-- the rows with those of the lines from this number on, or the line that says the first fault or
-- stop. A line is nothing where it is too long.
abbrev pub rows_from : Choice → Rules → TableSet → Columns → List Row → ℕ → List (Option (List ℕ))
    → Result (List Row) (List ℕ)
rows_from choice x tables header older number [] = Ok older
rows_from choice x tables header older number (None ∷ later) = Err (fault_said number LineTooLong)
rows_from choice x tables header older number (Some line ∷ later) =
    rows_with choice x tables older number (row_of header (moment_before older) x.start line)
    (λ rows. rows_from choice x tables header rows (number + 1) later)

-- the rows behind a first line
abbrev pub rows_under : Choice → Rules → TableSet → Result (Option Columns) TraceCause
    → List (Option (List ℕ)) → Result (List Row) (List ℕ)
rows_under choice x tables (Err cause) later = Err (fault_said 1 cause)
rows_under choice x tables (Ok None) later = Err (fault_said 0 NoHeader)
rows_under choice x tables (Ok (Some header)) later = rows_from choice x tables header [] 2 later

-- the rows of a trace with these lines
abbrev pub trace_rows : Choice → Rules → TableSet → Objects → List (Option (List ℕ))
    → Result (List Row) (List ℕ)
trace_rows choice x tables objects [] = Err (fault_said 0 NoHeader)
trace_rows choice x tables objects (None ∷ later) = Err (fault_said 1 LineTooLong)
trace_rows choice x tables objects (Some line ∷ later) =
    rows_under choice x tables (header_of x.input_keys objects line) later
