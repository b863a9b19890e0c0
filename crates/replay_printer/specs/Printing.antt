-- What a printer of a replay prints from a line on, and when it can take one.
use Rattle.std.specs.Prelude.{◌≡◌, ℕ, List, [], ◌∷◌, length, Option, None, Some, refl}
use Rattle.byte_edge.specs.Lines.{LineEvent, PastBudget}
use Rattle.command_outputs.specs.Messages.{too_long_line}
use Rattle.command_outputs.specs.declared.role.Role.TheVariants.{Trace}
use Rattle.object_index.specs.Objects.{Objects}
use Rattle.rule_types.specs.declared.row.Row.{Row}
use Rattle.rule_types.specs.declared.rules.Rules.{Rules}
use Rattle.rule_types.specs.Tables.{TableSet}
use Rattle.rule_meaning.specs.Reading.{Choice}
use Rattle.rule_meaning.specs.Replay.{RowsFit}
use Rattle.trace_csv.specs.Columns.{Columns}
use Rattle.replay_meaning.specs.Kept.{Kept, first_kept}
use Rattle.replay_meaning.specs.Standing.{StandsFor, CanReplay}
use Rattle.replay_text.specs.Kept.{goes_on}
use Rattle.replay_text.specs.Replays.{trace_printed}
use Rattle.replay_printer.specs.Printed.{as_printed}
use Rattle.trace_replay.specs.Progress.{kept_of, IsProgressOf}
use Rattle.trace_replay.specs.declared.progress.Progress.{Progress}
use Rattle.streamed_lines.specs.Streams.{Printed, ends}

-- what is printed of these lines where the header was read: each record is a row
abbrev pub rows_from : Choice → Rules → TableSet → Columns → Kept → ℕ → List LineEvent → Printed
rows_from choice x tables header kept number lines =
    as_printed x.names (goes_on choice x tables header kept number lines)

-- the same where it may not have come yet: then the first record is the header
abbrev pub printed_by : Choice → Rules → TableSet → Objects → Option Columns → Kept → ℕ
    → List LineEvent → Printed
printed_by choice x tables objects None kept number lines =
    as_printed x.names (trace_printed choice x tables objects number lines)
printed_by choice x tables objects (Some header) kept number lines =
    rows_from choice x tables header kept number lines

-- a header gives as many inputs as the rules have input keys, and before it there was no row
abbrev pub HeaderFits : Rules → Kept → Option Columns → Type 0
HeaderFits x kept None = kept ≡ first_kept x
HeaderFits x kept (Some header) = header.inputs ≡ length x.input_keys

-- A line can be taken: the rules can be replayed, no row stopped, what is kept stands for rows that
-- a replay can take, and a row has room for each input.
pub record CanTake (choice : Choice) (x : Rules) (tables : TableSet) (header : Option Columns)
    (kept : Kept) (room : ℕ) : Type 0 where
  pub rules : CanReplay choice x tables
  pub going : kept.stop ≡ None
  pub rows : List Row
  pub stands : StandsFor choice x tables kept rows
  pub fits : RowsFit x rows
  pub inputs : room ≡ length x.input_keys
  pub columns : HeaderFits x kept header

-- A printer can take a line: its readings are ready and made for its rules, its replay has come as
-- far as it says, and a line can be taken.
pub record IsReady (readings : Type 0) (made_for : Rules) (choice : Choice) (x : Rules)
    (tables : TableSet) (header : Option Columns) (progress : Progress) (room : ℕ) : Type 0 where
  pub reads : readings
  pub for_rules : made_for ≡ x
  pub replayed : IsProgressOf x progress
  pub line : CanTake choice x tables header (kept_of progress) room

-- a line that reaches past the budget ends the text, and nothing is printed at the end
pub past_budget_of : (choice : Choice) (x : Rules) (tables : TableSet) (objects : Objects)
    (header : Option Columns) (kept : Kept) (number : ℕ) (later : List LineEvent)
    → printed_by choice x tables objects header kept number (PastBudget ∷ later)
    ≡ ends (Some (too_long_line Trace))
past_budget_of choice x tables objects None kept number later = refl
past_budget_of choice x tables objects (Some header) kept number later = refl

pub nothing_at_end_of : (choice : Choice) (x : Rules) (tables : TableSet) (objects : Objects)
    (header : Option Columns) (kept : Kept) (number : ℕ)
    → (printed_by choice x tables objects header kept number []).text ≡ []
nothing_at_end_of choice x tables objects None kept number = refl
nothing_at_end_of choice x tables objects (Some header) kept number = refl
