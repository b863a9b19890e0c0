-- A printer that can take a line can take the next one.
use Rattle.std.proofs.Common.{◌≡◌, ℕ, Bool, true, false, not, cond, List, [], ◌∷◌, length, map, Option, Some, None, Result, Ok, Err, refl, ap, sym, ◌∙◌, subst, ℤ}
use Rattle.std.specs.Prelude.{codes}
use Rattle.std.specs.Str.{str_eq_ignore_ascii_case}
use Rattle.exact_fraction.specs.Moments.{IsMoment}
use Rattle.object_index.specs.Objects.{Objects}
use Rattle.rule_types.specs.declared.key.Key.{Key}
use Rattle.rule_types.specs.declared.row.Row.{Row}
use Rattle.rule_types.specs.declared.rules.Rules.{Rules}
use Rattle.rule_types.specs.declared.stop.RowStop.{RowStop}
use Rattle.rule_types.specs.declared.stop.RowStop.TheVariants as row_stop
use Rattle.rule_types.specs.declared.stop.Stop.{Stop}
use Rattle.rule_types.specs.Tables.{TableSet}
use Rattle.rule_meaning.specs.Reading.{Choice}
use Rattle.rule_meaning.specs.Replay.{RowsFit, stop_of}
use Rattle.trace_csv.specs.Columns.{Columns, column_input, has_duplicate, are_given, checked_columns, header_in, when_read, some_header, header_of}
use Rattle.trace_csv.specs.Fields.{trimmed, first_field, further_fields}
use Rattle.trace_csv.specs.Records.{record_of}
use Rattle.trace_csv.specs.Rows.{row_of}
use Rattle.trace_csv.specs.declared.fault.TraceCause.{TraceCause}
use Rattle.trace_csv.specs.declared.fault.TraceCause.TheVariants.{BadHeader, DuplicateColumn, MissingColumn}
use Rattle.replay_meaning.specs.Kept.{Kept, first_kept, reading_of, after_row, kept_after, kept_by}
use Rattle.replay_meaning.specs.Standing.{StandsFor, CanReplay, CanFollow}
use Rattle.replay_meaning.proofs.PublicLaws.{standing-first, standing-with}
use Rattle.replay_printer.specs.Printing.{CanTake}
use Rattle.trace_replay.specs.Answers.{row_answer}
use Rattle.replay_printer.specs.internal.Ends.{stop_in}
use Rattle.replay_printer.specs.internal.Headers.{PrintsHeader}
use Rattle.replay_printer.proofs.FittingRows.{row_fits, last_is}

-- ---- a header has as many inputs as there are input keys
columns_by : (columns : List (Option ℕ)) (inputs : ℕ) (twice missing : Bool) (header : Columns)
    → cond twice (Err DuplicateColumn) (cond missing (Err MissingColumn) (Ok (record { columns = columns; inputs = inputs }))) ≡ Ok header
    → header.inputs ≡ inputs
columns_by columns inputs true missing header is = cc
columns_by columns inputs false true header is = cc
columns_by columns inputs false false header is =
    let same : record { columns = columns; inputs = inputs } ≡ header = cc in sym (ap (λ (h : Columns). h.inputs) same)

word_by : (keys : List Key) (columns : List (Option ℕ)) (wrong : Bool) (header : Columns)
    → cond wrong (Err BadHeader) (checked_columns columns (length keys)) ≡ Ok header → header.inputs ≡ length keys
word_by keys columns true header is = cc
word_by keys columns false header is =
    columns_by columns (length keys) (has_duplicate columns) (not (are_given columns (length keys))) header is

fields_inputs : (keys : List Key) (objects : Objects) (fields : List (List ℕ)) (header : Columns) → header_in keys objects fields ≡ Ok header
    → header.inputs ≡ length keys
unfolding header_in
fields_inputs keys objects fields header is =
    word_by keys (map (column_input keys objects) (further_fields fields))
    (not (str_eq_ignore_ascii_case (trimmed (first_field fields)) (codes "moment"))) header is

header_by_read : (keys : List Key) (read : Result Columns TraceCause) (header : Columns) → ((found : Columns) → read ≡ Ok found → found.inputs ≡ length keys)
    → when_read read ≡ Ok (Some header) → header.inputs ≡ length keys
header_by_read keys (Ok found) header inputs is =
    let same : found ≡ header = cc in sym (ap (λ (h : Columns). h.inputs) same) ∙ inputs found refl
header_by_read keys (Err cause) header inputs is = cc

by_record : (keys : List Key) (objects : Objects) (fields : Option (List (List ℕ))) (header : Columns)
    → some_header keys objects fields ≡ Ok (Some header) → header.inputs ≡ length keys
by_record keys objects None header is = cc
by_record keys objects (Some fields) header is =
    header_by_read keys (header_in keys objects fields) header (λ found read. fields_inputs keys objects fields found read) is

pub header_inputs : (keys : List Key) (objects : Objects) (line : List ℕ) (header : Columns) → header_of keys objects line ≡ Ok (Some header)
    → header.inputs ≡ length keys
unfolding header_of
header_inputs keys objects line header is = by_record keys objects (record_of line) header is

-- ---- the printer
-- at the start
pub ready_first : (choice : Choice) (x : Rules) (tables : TableSet) (room : ℕ) → CanReplay choice x tables → room ≡ length x.input_keys
    → CanTake choice x tables None (first_kept x) room
ready_first choice x tables room can long = record {
  rules = can;
  going = refl;
  rows = [];
  stands = standing-first choice x tables;
  fits = tt;
  inputs = long;
  columns = refl;
}

-- after a line before the header
pub ready_header : (choice : Choice) (x : Rules) (tables : TableSet) (objects : Objects) (kept : Kept) (room : ℕ) (found : Option Columns)
    (line text_old text_new : List ℕ) (number : ℕ) → PrintsHeader x objects number line text_old text_new (Ok found)
    → CanTake choice x tables None kept room → CanTake choice x tables found kept room
ready_header choice x tables objects kept room None line text_old text_new number prints ready = ready
ready_header choice x tables objects kept room (Some header) line text_old text_new number prints ready = record {
  rules = ready.rules;
  going = ready.going;
  rows = ready.rows;
  stands = ready.stands;
  fits = ready.fits;
  inputs = ready.inputs;
  columns = header_inputs x.input_keys objects line header prints.0;
}

-- a row can follow
rows_fit : (choice : Choice) (x : Rules) (tables : TableSet) (kept : Kept) (room : ℕ) (header : Columns) (line : List ℕ) (row : Row)
    → (ready : CanTake choice x tables (Some header) kept room)
    → IsMoment row.moment → row_of header kept.last x.start line ≡ Ok (Some row) → RowsFit x (row ∷ ready.rows)
rows_fit choice x tables kept room header line row ready is_moment is =
    row_fits x header line ready.rows row ready.columns ready.fits is_moment
    (ap (λ last. row_of header last x.start line) (last_is choice x tables ready.rows ∙ sym ready.stands.last) ∙ is)

pub row_follows : (choice : Choice) (x : Rules) (tables : TableSet) (kept : Kept) (room : ℕ) (header : Columns) (line : List ℕ) (row : Row)
    → CanTake choice x tables (Some header) kept room
    → IsMoment row.moment → row_of header kept.last x.start line ≡ Ok (Some row) → CanFollow choice x tables kept row
row_follows choice x tables kept room header line row ready is_moment is = record {
  rules = ready.rules;
  rows = ready.rows;
  stands = ready.stands;
  fits = rows_fit choice x tables kept room header line row ready is_moment is;
}

-- after a row that did not stop
pub ready_row : (choice : Choice) (x : Rules) (tables : TableSet) (kept new : Kept) (room : ℕ) (header : Columns) (line : List ℕ) (row : Row)
    → CanTake choice x tables (Some header) kept room
    → IsMoment row.moment → row_of header kept.last x.start line ≡ Ok (Some row) → new ≡ kept_after choice x tables kept row → new.stop ≡ None
    → CanTake choice x tables (Some header) new room
ready_row choice x tables kept new room header line row ready is_moment is now going =
    let after : new ≡ after_row choice x tables kept row = now ∙ ap (λ stop. kept_by stop kept (after_row choice x tables kept row)) ready.going in
    record {
      rules = ready.rules;
      going = going;
      rows = row ∷ ready.rows;
      stands = subst (λ one. StandsFor choice x tables one (row ∷ ready.rows)) (sym after)
          (standing-with choice x tables kept ready.rows row ready.rules.formed ready.going ready.stands);
      fits = rows_fit choice x tables kept room header line row ready is_moment is;
      inputs = ready.inputs;
      columns = ready.columns;
    }

-- ---- what a replay answers
pub goes_on : (old new : Option Stop) → old ≡ None → Ok tt ≡ row_answer old new → new ≡ None
goes_on (Some stop) new none answer = cc
goes_on None None none answer = refl
goes_on None (Some stop) none answer = cc

pub stops : (old new : Option Stop) (end : RowStop) → old ≡ None → Err end ≡ row_answer old new → new ≡ Some (stop_in end)
stops (Some stop) new end none answer = cc
stops None None end none answer = cc
stops None (Some stop) end none answer =
    let same : end ≡ row_stop.Stop stop = cc in ap (λ found. Some (stop_in found)) (sym same)

-- the same rules and the same moment before, under other names
pub read_by : (header : Columns) (line : List ℕ) (x rules : Rules) (before last : Option ℤ) (read : Result (Option Row) TraceCause)
    → rules ≡ x → last ≡ before → row_of header last rules.start line ≡ read → row_of header before x.start line ≡ read
read_by header line x rules before last read same then_last is =
    ap (λ one. row_of header one x.start line) (sym then_last) ∙ ap (λ (one : Rules). row_of header last one.start line) (sym same) ∙ is

pub taken_by : (choice other : Choice) (x y : Rules) (tables held : TableSet) (header : Option Columns) (kept : Kept) (room : ℕ)
    → other ≡ choice → y ≡ x → held ≡ tables → CanTake choice x tables header kept room → CanTake other y held header kept room
taken_by choice other x y tables held header kept room one two three ready =
    subst (λ c. CanTake c y held header kept room) (sym one)
    (subst (λ r. CanTake choice r held header kept room) (sym two)
    (subst (λ t. CanTake choice x t header kept room) (sym three) ready))

pub stopped_by : (choice : Choice) (x : Rules) (tables : TableSet) (kept new : Kept) (row : Row) (stop : Stop) → kept.stop ≡ None
    → new ≡ kept_after choice x tables kept row → new.stop ≡ Some stop → stop_of (reading_of choice x tables kept row) ≡ Some stop
stopped_by choice x tables kept new row stop going now stopped =
    let after : new ≡ after_row choice x tables kept row = now ∙ ap (λ found. kept_by found kept (after_row choice x tables kept row)) going in
    sym (ap (λ (one : Kept). one.stop) after) ∙ stopped

-- a printer at its start, whose parts are known by equations
pub ready_new : (choice other : Choice) (x y : Rules) (tables held : TableSet) (kept : Kept) (room : ℕ) → other ≡ choice → y ≡ x → held ≡ tables
    → kept ≡ first_kept x → room ≡ length x.input_keys → CanReplay choice x tables → CanTake other y held None kept room
ready_new choice other x y tables held kept room one two three first long can =
    taken_by choice other x y tables held None kept room one two three
    (subst (λ k. CanTake choice x tables None k room) (sym first) (ready_first choice x tables room can long))

-- a line before the header, where the rules have another name
pub ready_line : (choice : Choice) (x rules : Rules) (tables : TableSet) (objects : Objects) (before found : Option Columns) (kept : Kept) (room : ℕ)
    (line text_old text_new : List ℕ) (number : ℕ) → before ≡ None → rules ≡ x → PrintsHeader rules objects number line text_old text_new (Ok found)
    → CanTake choice x tables before kept room → CanTake choice x tables found kept room
ready_line choice x rules tables objects before found kept room line text_old text_new number none same prints ready =
    ready_header choice x tables objects kept room found line text_old text_new number
    (subst (λ (r : Rules). PrintsHeader r objects number line text_old text_new (Ok found)) same prints)
    (subst (λ h. CanTake choice x tables h kept room) none ready)
