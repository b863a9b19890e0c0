-- Complaints, and a replay before its first row.
use Rattle.std.specs.Prelude.{◌≡◌, ℕ, List, length, ⊤}
use Rattle.command_outputs.specs.declared.complaint.Complaint.{Complaint}
use Rattle.command_outputs.specs.declared.complaint.Complaint.TheVariants.{Refused, TooLong}
use Rattle.command_outputs.specs.declared.complaint.Complaint.TheVariants.{ReadFailed, WriteFailed}
use Rattle.command_outputs.specs.declared.complaint.Complaint.TheVariants.{OutOfMemory}
use Rattle.replay_meaning.specs.Kept.{Kept, first_kept}
use Rattle.replay_meaning.specs.Standing.{CanReplay}
use Rattle.rule_meaning.specs.Reading.{Choice}
use Rattle.rule_types.specs.declared.rules.Rules.{Rules}
use Rattle.rule_types.specs.Tables.{TableSet}
use Rattle.trace_csv.specs.Columns.{Columns}

-- a complaint says this line, unless memory is wanting
abbrev pub Says : List ℕ → Complaint → Type 0
Says said (Refused line) = line ≡ said
Says said (TooLong r) = ⊥
Says said (ReadFailed r) = ⊥
Says said WriteFailed = ⊥
Says said OutOfMemory = ⊤

-- a replay has taken no row, under a header of its rules
pub record IsAtFirstRow (choice : Choice) (x : Rules) (tables : TableSet) (header : Columns)
    (kept : Kept) : Type 0 where
  pub rules : CanReplay choice x tables
  pub first : kept ≡ first_kept x
  pub columns : header.inputs ≡ length x.input_keys
