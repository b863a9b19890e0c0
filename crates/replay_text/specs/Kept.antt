-- What is printed from a line on, by what a replay keeps of the rows so far.
use Rattle.std.specs.Prelude.{ℕ, ◌+◌, List, [], ◌∷◌, Option, Some, None, Result, Ok, Err}
use Rattle.byte_edge.specs.Lines.{LineEvent, Whole, OverLong, PastBudget}
use Rattle.rule_types.specs.declared.row.Row.{Row}
use Rattle.rule_types.specs.declared.rules.Rules.{Rules}
use Rattle.rule_types.specs.Tables.{TableSet}
use Rattle.rule_meaning.specs.History.{controlled_settings}
use Rattle.rule_meaning.specs.Reading.{Choice}
use Rattle.rule_meaning.specs.Replay.{stop_of}
use Rattle.trace_csv.specs.Columns.{Columns}
use Rattle.trace_csv.specs.Rows.{row_of}
use Rattle.trace_csv.specs.declared.fault.TraceCause.{TraceCause}
use Rattle.trace_csv.specs.declared.fault.TraceCause.TheVariants.{LineTooLong}
use Rattle.replay_meaning.specs.Kept.{Kept, reading_of, standings_at, after_row}
use Rattle.replay_text.specs.Ends.{Finished, Faulty, Overrun}
use Rattle.replay_text.specs.Lines.{row_line}
use Rattle.replay_text.specs.Replays.{Printed, ends, unless_stopped}

-- the line of a row
abbrev pub kept_line : Choice → Rules → TableSet → Kept → Row → List ℕ
kept_line choice x tables k row =
    row_line row.moment (controlled_settings x (standings_at choice x tables k row))

abbrev pub kept_line_printed : Choice → Rules → TableSet → Kept → ℕ
    → Result (Option Row) TraceCause → (Kept → Printed) → Printed
kept_line_printed choice x tables k number (Err cause) later = ends (Faulty number cause)
kept_line_printed choice x tables k number (Ok None) later = later k
kept_line_printed choice x tables k number (Ok (Some row)) later =
    unless_stopped number (stop_of (reading_of choice x tables k row))
    (kept_line choice x tables k row) (later (after_row choice x tables k row))

-- what is printed for the lines from this number on
abbrev pub goes_on : Choice → Rules → TableSet → Columns → Kept → ℕ → List LineEvent → Printed
goes_on choice x tables header k number [] = ends Finished
goes_on choice x tables header k number (Whole line ∷ later) =
    kept_line_printed choice x tables k number (row_of header k.last x.start line)
    (λ kept. goes_on choice x tables header kept (number + 1) later)
goes_on choice x tables header k number (OverLong ∷ later) = ends (Faulty number LineTooLong)
goes_on choice x tables header k number (PastBudget ∷ later) = ends Overrun
