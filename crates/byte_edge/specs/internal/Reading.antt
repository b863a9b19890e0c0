-- What a line reader keeps to, and what its step leaves where the line stays in the reader.
use Rattle.std.specs.Prelude.{◌≡◌, ◌<◌, ◌+◌, ℕ, ◌≤◌, Bool, true, false, List, [], length, Ok, Err, Option, Result}
use Rattle.byte_edge.specs.Lines.{Whole, OverLong}
use Rattle.byte_edge.specs.ReaderState.{ReaderState, ReportsLine, ReportsEnd, ReportsPastBudget, ReportsFault}
use Rattle.byte_edge.specs.declared.read_end.ReadEnd.{ReadEnd}
use Rattle.byte_edge.specs.declared.read_end.ReadEnd.TheVariants.{LineTooLong, TooLong, Fault}

-- what holds of the parts of every reader: its line has room for two bytes of line end and one too
-- many
pub record IsSound (slot limit most : ℕ) (ended : Bool) (held : List ℕ) : Type 0 where
  pub slot_below : slot < 3
  pub limit_within : limit ≤ 65536
  pub room_for_line : most ≡ limit + 3
  pub none_held : ended ≡ true → held ≡ []

-- what each answer of `advance` leaves: true where there is a line
abbrev pub Advances : ReaderState → ReaderState → Option (List ℕ) → Option (List ℕ)
    → Result Bool ReadEnd → Type 0
Advances old new was left (Ok true) =
    ReportsLine (Whole new.line) old new was left × (length new.line ≤ old.limit)
Advances old new was left (Ok false) = ReportsEnd old new was left
Advances old new was left (Err LineTooLong) = ReportsLine OverLong old new was left
Advances old new was left (Err TooLong) = ReportsPastBudget old new was left
Advances old new was left (Err Fault) = ReportsFault old new was left
