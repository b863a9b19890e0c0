-- What each answer of a line reader reports and leaves.
use Rattle.std.specs.Prelude.{ℕ, ◌≤◌, Bool, true, false, List, length, Some, None, Ok, Err, Option, Result, ⊤}
use denote.Ref.{Bor}
use Rattle.byte_edge.specs.Lines.{Whole, OverLong}
use Rattle.byte_edge.specs.ReaderState.{ReaderState, ReportsLine, ReportsEnd, ReportsPastBudget, ReportsFault}
use Rattle.byte_edge.specs.declared.read_end.ReadEnd.{ReadEnd}
use Rattle.byte_edge.specs.declared.read_end.ReadEnd.TheVariants.{LineTooLong, TooLong, Fault}

-- the answer is a fault
abbrev pub is_fault : {A : Type 0} → Result A ReadEnd → Bool
is_fault (Ok a) = false
is_fault (Err LineTooLong) = false
is_fault (Err TooLong) = false
is_fault (Err Fault) = true

-- `next_line`: a line, none left, or why none was given
abbrev pub Answers : ReaderState → ReaderState → Option (List ℕ) → Option (List ℕ)
    → Result (Option (Bor (List ℕ))) ReadEnd → Type 0
Answers old new was left (Ok (Some line)) = ReportsLine (Whole line.now) old new was left
Answers old new was left (Ok None) = ReportsEnd old new was left
Answers old new was left (Err LineTooLong) = ReportsLine OverLong old new was left
Answers old new was left (Err TooLong) = ReportsPastBudget old new was left
Answers old new was left (Err Fault) = ReportsFault old new was left

-- a line that was given has at most `limit` bytes
abbrev pub GivesAtMost : ℕ → Result (Option (Bor (List ℕ))) ReadEnd → Type 0
GivesAtMost limit (Ok (Some line)) = length line.now ≤ limit
GivesAtMost limit (Ok None) = ⊤
GivesAtMost limit (Err end) = ⊤
