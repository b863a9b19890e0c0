-- What is printed by what is kept is what is printed of the rows.
use Rattle.std.proofs.Common.{◌≡◌, ℕ, ◌+◌, List, [], ◌∷◌, Option, Some, None, Result, Ok, Err, refl, ap, sym, ◌∙◌}
use Rattle.byte_edge.specs.Lines.{LineEvent, Whole, OverLong, PastBudget}
use Rattle.rule_types.specs.declared.row.Row.{Row}
use Rattle.rule_types.specs.declared.rules.Rules.{Rules}
use Rattle.rule_types.specs.declared.stop.Stop.{Stop}
use Rattle.rule_types.specs.Tables.{TableSet}
use Rattle.rule_types.specs.WellFormed.{WellFormed}
use Rattle.rule_meaning.specs.History.{controlled_settings}
use Rattle.rule_meaning.specs.Reading.{Choice}
use Rattle.rule_meaning.specs.Replay.{replayed_by, last_moment, stop_of}
use Rattle.trace_csv.specs.Columns.{Columns}
use Rattle.trace_csv.specs.Rows.{row_of}
use Rattle.trace_csv.specs.declared.fault.TraceCause.{TraceCause}
use Rattle.replay_meaning.specs.Kept.{Kept, first_kept, reading_of, after_row}
use Rattle.replay_meaning.specs.Standing.{StandsFor}
use Rattle.replay_meaning.proofs.PublicLaws.{standing-first, standing-with, standing-reading, standing-standings}
use Rattle.replay_text.specs.Lines.{row_line}
use Rattle.replay_text.specs.Replays.{Printed, prefixed, moment_before, row_stop, last_line, unless_stopped, line_printed, rows_printed}
use Rattle.replay_text.specs.Kept.{kept_line, kept_line_printed, goes_on}

-- the moment of the last row
last_is : (choice : Choice) (x : Rules) (tables : TableSet) (rows : List Row)
    → moment_before rows ≡ last_moment (replayed_by choice x tables rows)
last_is choice x tables [] = refl
last_is choice x tables (row ∷ older) = refl

-- the stop and the line of a row
stop_is : (choice : Choice) (x : Rules) (tables : TableSet) (k : Kept) (rows : List Row) (row : Row) → StandsFor choice x tables k rows
    → row_stop choice x tables rows row ≡ stop_of (reading_of choice x tables k row)
stop_is choice x tables k rows row h = sym (ap stop_of (standing-reading choice x tables k rows row h))

line_is : (choice : Choice) (x : Rules) (tables : TableSet) (k : Kept) (rows : List Row) (row : Row) → StandsFor choice x tables k rows
    → last_line choice x tables rows row ≡ kept_line choice x tables k row
line_is choice x tables k rows row h =
    sym (ap (λ standings. row_line row.moment (controlled_settings x standings)) (standing-standings choice x tables k rows row h))

-- a row that does not stop leaves no stop
by_stop : (number : ℕ) (stop : Option Stop) (line : List ℕ) (one other : Printed) → (stop ≡ None → one ≡ other)
    → unless_stopped number stop line one ≡ unless_stopped number stop line other
by_stop number None line one other same = ap (prefixed line) (same refl)
by_stop number (Some stop) line one other same = refl

pub by_rows : (choice : Choice) (x : Rules) (tables : TableSet) (header : Columns) (lines : List LineEvent) (k : Kept) (rows : List Row) (number : ℕ)
    → WellFormed x → k.stop ≡ None → StandsFor choice x tables k rows
    → rows_printed choice x tables header rows number lines ≡ goes_on choice x tables header k number lines
by_rows choice x tables header [] k rows number formed going h = refl
by_rows choice x tables header (Whole line ∷ later) k rows number formed going h =
    ap (λ read. line_printed choice x tables rows number read (λ list. rows_printed choice x tables header list (number + 1) later))
    (ap (λ last. row_of header last x.start line) (last_is choice x tables rows ∙ sym h.last))
    ∙ by_line (row_of header k.last x.start line)
    (λ kept list going stands. by_rows choice x tables header later kept list (number + 1) formed going stands)
  where
    by_line : (read : Result (Option Row) TraceCause)
        → ((kept : Kept) (list : List Row) → kept.stop ≡ None → StandsFor choice x tables kept list
        → rows_printed choice x tables header list (number + 1) later ≡ goes_on choice x tables header kept (number + 1) later)
        → line_printed choice x tables rows number read (λ list. rows_printed choice x tables header list (number + 1) later)
        ≡ kept_line_printed choice x tables k number read (λ kept. goes_on choice x tables header kept (number + 1) later)
    by_line (Err cause) again = refl
    by_line (Ok None) again = again k rows going h
    by_line (Ok (Some row)) again =
        ap (λ stop. unless_stopped number stop (last_line choice x tables rows row) (rows_printed choice x tables header (row ∷ rows) (number + 1) later))
        (stop_is choice x tables k rows row h)
        ∙ ap (λ text. unless_stopped number (stop_of (reading_of choice x tables k row)) text (rows_printed choice x tables header (row ∷ rows) (number + 1) later))
        (line_is choice x tables k rows row h)
        ∙ by_stop number (stop_of (reading_of choice x tables k row)) (kept_line choice x tables k row)
        (rows_printed choice x tables header (row ∷ rows) (number + 1) later)
        (goes_on choice x tables header (after_row choice x tables k row) (number + 1) later)
        (λ (none : stop_of (reading_of choice x tables k row) ≡ None). again (after_row choice x tables k row) (row ∷ rows) none (standing-with choice x tables k rows row formed going h))
by_rows choice x tables header (OverLong ∷ later) k rows number formed going h = refl
by_rows choice x tables header (PastBudget ∷ later) k rows number formed going h = refl

pub from_first : (choice : Choice) (x : Rules) (tables : TableSet) (header : Columns) (lines : List LineEvent) (number : ℕ) → WellFormed x
    → rows_printed choice x tables header [] number lines ≡ goes_on choice x tables header (first_kept x) number lines
from_first choice x tables header lines number formed =
    by_rows choice x tables header lines (first_kept x) [] number formed refl (standing-first choice x tables)
