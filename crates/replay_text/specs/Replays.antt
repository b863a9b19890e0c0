-- The text of a replay of a trace, and how it ends. A trace stands here as what a reader reports of
-- its lines, in their order; rows are listed with the newest first.
use Rattle.std.specs.Prelude.{ℕ, ◌+◌, List, [], ◌∷◌, ◌++◌, Option, Some, None, Result, Ok, Err, ℤ}
use Rattle.byte_edge.specs.Lines.{LineEvent, Whole, OverLong, PastBudget}
use Rattle.object_index.specs.Objects.{Objects}
use Rattle.rule_types.specs.declared.row.Row.{Row}
use Rattle.rule_types.specs.declared.rules.Rules.{Rules}
use Rattle.rule_types.specs.declared.stop.Stop.{Stop}
use Rattle.rule_types.specs.Tables.{TableSet}
use Rattle.rule_meaning.specs.History.{reading_by, controlled_settings}
use Rattle.rule_meaning.specs.Reading.{Choice, settling}
use Rattle.rule_meaning.specs.Replay.{replayed_by, state_after_by, standings_now_by, stop_of}
use Rattle.trace_csv.specs.Columns.{Columns, header_of}
use Rattle.trace_csv.specs.Rows.{row_of}
use Rattle.trace_csv.specs.declared.fault.TraceCause.{TraceCause}
use Rattle.trace_csv.specs.declared.fault.TraceCause.TheVariants.{NoHeader, LineTooLong}
use Rattle.replay_text.specs.Ends.{End, Finished, Faulty, Stopped, Overrun}
use Rattle.replay_text.specs.Lines.{header_line, row_line}

-- what is printed, and how it ends
pub record Printed : Type 0 where
  pub text : List ℕ
  pub end : End

-- nothing more is printed
abbrev pub ends : End → Printed
ends end = record { text = []; end = end }

-- a text, and then what is printed after it
abbrev pub prefixed : List ℕ → Printed → Printed
prefixed text rest = record { text = text ++ rest.text; end = rest.end }

-- the moment of the last row, if there is one
abbrev pub moment_before : List Row → Option ℤ
moment_before [] = None
moment_before (row ∷ older) = Some row.moment

-- how the reading of a row after older rows ends: with a stop, or with none
abbrev pub row_stop : Choice → Rules → TableSet → List Row → Row → Option Stop
row_stop choice x tables older row =
    stop_of (reading_by choice x tables (replayed_by choice x tables older)
    (state_after_by choice x tables (replayed_by choice x tables older) row))

-- the line of the last of some rows: its moment, and the settings of the controlled links after it
abbrev pub last_line : Choice → Rules → TableSet → List Row → Row → List ℕ
last_line choice x tables older row =
    row_line row.moment
    (controlled_settings x
    (standings_now_by choice x tables (replayed_by choice x tables (row ∷ older))))

-- a row on a line is printed, unless its reading stops
abbrev pub unless_stopped : ℕ → Option Stop → List ℕ → Printed → Printed
unless_stopped number None line later = prefixed line later
unless_stopped number (Some stop) line later = ends (Stopped number stop)

-- What is printed for the lines from this number on, after older rows. A line without a record is
-- skipped.
abbrev pub line_printed : Choice → Rules → TableSet → List Row → ℕ → Result (Option Row) TraceCause
    → (List Row → Printed) → Printed
line_printed choice x tables older number (Err cause) later = ends (Faulty number cause)
line_printed choice x tables older number (Ok None) later = later older
line_printed choice x tables older number (Ok (Some row)) later =
    unless_stopped number (row_stop choice x tables older row)
    (last_line choice x tables older row) (later (row ∷ older))

abbrev pub rows_printed : Choice → Rules → TableSet → Columns → List Row → ℕ → List LineEvent
    → Printed
rows_printed choice x tables header older number [] = ends Finished
rows_printed choice x tables header older number (Whole line ∷ later) =
    line_printed choice x tables older number (row_of header (moment_before older) x.start line)
    (λ rows. rows_printed choice x tables header rows (number + 1) later)
rows_printed choice x tables header older number (OverLong ∷ later) =
    ends (Faulty number LineTooLong)
rows_printed choice x tables header older number (PastBudget ∷ later) = ends Overrun

-- What is printed for the lines from this number on where no record has come yet: the first record
-- is the header, and its line is printed as soon as it is accepted.
abbrev pub header_printed : Rules → Objects → ℕ → Result (Option Columns) TraceCause → Printed
    → (Columns → Printed) → Printed
header_printed x objects number (Err cause) skipped rows = ends (Faulty number cause)
header_printed x objects number (Ok None) skipped rows = skipped
header_printed x objects number (Ok (Some header)) skipped rows =
    prefixed (header_line x objects) (rows header)

abbrev pub trace_printed : Choice → Rules → TableSet → Objects → ℕ → List LineEvent → Printed
trace_printed choice x tables objects number [] = ends (Faulty 0 NoHeader)
trace_printed choice x tables objects number (Whole line ∷ later) =
    header_printed x objects number (header_of x.input_keys objects line)
    (trace_printed choice x tables objects (number + 1) later)
    (λ header. rows_printed choice x tables header [] (number + 1) later)
trace_printed choice x tables objects number (OverLong ∷ later) = ends (Faulty number LineTooLong)
trace_printed choice x tables objects number (PastBudget ∷ later) = ends Overrun

-- The text of a replay of rules, with these tables and objects, over the lines of a trace: lines
-- are counted from 1. By this choice each link takes a pair at a reading.
abbrev pub replay_text_by : Choice → Rules → TableSet → Objects → List LineEvent → Printed
replay_text_by choice x tables objects lines = trace_printed choice x tables objects 1 lines

-- the same where each link takes its settled pair (SWMM 5.2 manual, [CONTROLS])
abbrev pub replay_text : Rules → TableSet → Objects → List LineEvent → Printed
replay_text x tables objects lines = replay_text_by (settling x) x tables objects lines
