-- A replay on its way through the lines of a trace.
use Rattle.std.specs.Prelude.{◌≡◌, ℕ, List, Option, None, length, Result, Ok, Err, ⊤}
use Rattle.command_outputs.specs.Messages.{too_long_line}
use Rattle.command_outputs.specs.declared.complaint.Complaint.{Complaint}
use Rattle.command_outputs.specs.declared.complaint.Complaint.TheVariants.{Refused, TooLong}
use Rattle.command_outputs.specs.declared.complaint.Complaint.TheVariants.{ReadFailed, WriteFailed}
use Rattle.command_outputs.specs.declared.complaint.Complaint.TheVariants.{OutOfMemory}
use Rattle.replay_meaning.specs.Kept.{Kept}
use Rattle.replay_meaning.specs.Standing.{CanReplay, StandsFor}
use Rattle.rule_meaning.specs.Reading.{Choice}
use Rattle.rule_meaning.specs.Replay.{RowsFit}
use Rattle.rule_types.specs.declared.row.Row.{Row}
use Rattle.rule_types.specs.declared.rules.Rules.{Rules}
use Rattle.rule_types.specs.Tables.{TableSet}
use Rattle.trace_csv.specs.Columns.{Columns}
use Rattle.trace_tally.specs.TraceRows.{rows_from}
use Rattle.trace_tally.specs.Tallies.{Tally, tallied, switches_in}

-- a replay can take a row: no row stopped, and what is kept stands for rows that a replay can take
pub record CanTakeRow (choice : Choice) (x : Rules) (tables : TableSet) (header : Columns)
    (k : Kept) : Type 0 where
  pub rules : CanReplay choice x tables
  pub columns : header.inputs ≡ length x.input_keys
  pub going : k.stop ≡ None
  pub rows : List Row
  pub stands : StandsFor choice x tables k rows
  pub fits : RowsFit x rows

-- A replay has taken the rows of the lines before this one, and counted their switches; with the
-- lines to come the result is the one that is due.
pub record Taken (choice : Choice) (x : Rules) (tables : TableSet) (header : Columns) (k : Kept)
    (switches number : ℕ) (file : List (Option (List ℕ))) (due : Result Tally (List ℕ)) : Type 0 where
  pub rules : CanReplay choice x tables
  pub columns : header.inputs ≡ length x.input_keys
  pub going : k.stop ≡ None
  pub rows : List Row
  pub stands : StandsFor choice x tables k rows
  pub fits : RowsFit x rows
  pub counted : switches ≡ switches_in choice x tables rows
  pub comes : tallied choice x tables (rows_from choice x tables header rows number file) ≡ due

-- what is due is this refusal
abbrev pub Refuses : Result Tally (List ℕ) → Complaint → Type 0
Refuses due (Refused line) = due ≡ Err line
Refuses due (TooLong r) = due ≡ Err (too_long_line r)
Refuses due (ReadFailed r) = ⊥
Refuses due WriteFailed = ⊥
Refuses due OutOfMemory = ⊤

-- a line is taken with so many changes, or what is due is a refusal
abbrev pub TakesLine : (ℕ → Type 0) → Result Tally (List ℕ) → Result ℕ Complaint → Type 0
TakesLine Takes due (Ok more) = Takes more
TakesLine Takes due (Err complaint) = Refuses due complaint
