-- A replay that has taken the rows of some lines, and what is still to come.
use Rattle.std.proofs.Common.{◌≡◌, ℕ, ◌+◌, List, [], ◌∷◌, length, Option, Some, None, Result, Ok, Err, refl, ap, sym, ◌∙◌, subst, ℤ}
use Rattle.exact_fraction.specs.Moments.{IsMoment}
use Rattle.exact_fraction.specs.Number.{Rational}
use Rattle.rule_types.specs.declared.row.Row.{Row}
use Rattle.rule_types.specs.declared.rules.Rules.{Rules}
use Rattle.rule_types.specs.declared.stop.RowStop.{RowStop}
use Rattle.rule_types.specs.declared.stop.RowStop.TheVariants as row_stopped
use Rattle.rule_types.specs.declared.stop.Stop.{Stop}
use Rattle.rule_types.specs.Tables.{TableSet}
use Rattle.rule_meaning.specs.History.{controlled_settings}
use Rattle.rule_meaning.specs.Reading.{Choice}
use Rattle.rule_meaning.specs.Replay.{RowsFit, stop_of}
use Rattle.trace_csv.specs.Columns.{Columns}
use Rattle.trace_csv.specs.Rows.{row_of}
use Rattle.trace_csv.specs.declared.fault.TraceCause.{TraceCause}
use Rattle.trace_csv.specs.declared.fault.TraceCause.TheVariants.{LineTooLong}
use Rattle.replay_meaning.specs.Kept.{Kept, first_kept, reading_of, after_row, kept_after, kept_by}
use Rattle.replay_meaning.specs.Standing.{StandsFor, CanReplay, CanFollow}
use Rattle.replay_meaning.proofs.PublicLaws.{standing-first, standing-with, standing-reading}
use Rattle.replay_text.specs.Replays.{moment_before, row_stop}
use Rattle.trace_replay.specs.Answers.{row_answer}
use Rattle.trace_tally.specs.TraceRows.{rows_from, rows_with, unless_stopped, fault_said, stop_said, stop_in}
use Rattle.trace_tally.specs.Tallies.{Tally, tallied, changes, switches_in}
use Rattle.trace_tally.specs.Giving.{tally_with}
use Rattle.trace_tally.specs.internal.Starting.{IsAtFirstRow}
use Rattle.trace_tally.specs.internal.Taking.{Taken, CanTakeRow}
use Rattle.trace_tally.proofs.FittingRows.{row_fits, last_is}

-- a row can be taken
pub taken_ready : (choice : Choice) (x : Rules) (tables : TableSet) (header : Columns) (k : Kept)
    (switches number : ℕ) (file : List (Option (List ℕ))) (due : Result Tally (List ℕ))
    → Taken choice x tables header k switches number file due → CanTakeRow choice x tables header k
taken_ready choice x tables header k switches number file due t = record {
  rules = t.rules;
  columns = t.columns;
  going = t.going;
  rows = t.rows;
  stands = t.stands;
  fits = t.fits;
}

pub ready_follows : (choice : Choice) (x : Rules) (tables : TableSet) (header : Columns) (k : Kept)
    (line : List ℕ) (row : Row) → CanTakeRow choice x tables header k
    → row_of header k.last x.start line ≡ Ok (Some row) → IsMoment row.moment
    → CanFollow choice x tables k row
ready_follows choice x tables header k line row t is is_moment = record {
  rules = t.rules;
  rows = t.rows;
  stands = t.stands;
  fits = row_fits x header line t.rows row t.columns t.fits is_moment
      (ap (λ last. row_of header last x.start line) (last_is choice x tables t.rows ∙ sym t.stands.last) ∙ is);
}

-- no row was taken
pub taken_first : (choice : Choice) (x : Rules) (tables : TableSet) (header : Columns) (k : Kept)
    (file : List (Option (List ℕ))) → IsAtFirstRow choice x tables header k
    → Taken choice x tables header k 0 2 file
    (tallied choice x tables (rows_from choice x tables header [] 2 file))
taken_first choice x tables header k file first = record {
  rules = first.rules;
  columns = first.columns;
  going = ap (λ (one : Kept). one.stop) first.first;
  rows = [];
  stands = subst (λ one. StandsFor choice x tables one []) (sym first.first) (standing-first choice x tables);
  fits = tt;
  counted = refl;
  comes = refl;
}

-- ---- a line
module _ (choice : Choice) (x : Rules) (tables : TableSet) (header : Columns) (k : Kept)
    (switches number : ℕ) (line : List ℕ) (file : List (Option (List ℕ))) (due : Result Tally (List ℕ)) where
  -- what a line is, behind the rows that were taken
  read_behind : (t : Taken choice x tables header k switches number (Some line ∷ file) due)
      (read : Result (Option Row) TraceCause) → row_of header k.last x.start line ≡ read
      → row_of header (moment_before t.rows) x.start line ≡ read
  read_behind t read is =
      ap (λ last. row_of header last x.start line) (last_is choice x tables t.rows ∙ sym t.stands.last) ∙ is

  -- what comes, by what the line is
  comes_by : (t : Taken choice x tables header k switches number (Some line ∷ file) due)
      (read : Result (Option Row) TraceCause) → row_of header k.last x.start line ≡ read
      → tallied choice x tables (rows_with choice x tables t.rows number read
      (λ rows. rows_from choice x tables header rows (number + 1) file)) ≡ due
  comes_by t read is =
      sym (ap (λ one. tallied choice x tables (rows_with choice x tables t.rows number one
      (λ rows. rows_from choice x tables header rows (number + 1) file))) (read_behind t read is))
      ∙ t.comes

  pub taken_none : Taken choice x tables header k switches number (Some line ∷ file) due
      → row_of header k.last x.start line ≡ Ok None
      → Taken choice x tables header k switches (number + 1) file due
  taken_none t is = record {
    rules = t.rules;
    columns = t.columns;
    going = t.going;
    rows = t.rows;
    stands = t.stands;
    fits = t.fits;
    counted = t.counted;
    comes = comes_by t (Ok None) is;
  }

  pub taken_fault : Taken choice x tables header k switches number (Some line ∷ file) due
      → (cause : TraceCause) → row_of header k.last x.start line ≡ Err cause
      → due ≡ Err (fault_said number cause)
  taken_fault t cause is = sym (comes_by t (Err cause) is)

  pub taken_fits : (t : Taken choice x tables header k switches number (Some line ∷ file) due)
      → (row : Row) → row_of header k.last x.start line ≡ Ok (Some row) → IsMoment row.moment
      → RowsFit x (row ∷ t.rows)
  taken_fits t row is is_moment =
      row_fits x header line t.rows row t.columns t.fits is_moment (read_behind t (Ok (Some row)) is)

  -- what is kept after the row, and how its reading ends
  after_is : Taken choice x tables header k switches number (Some line ∷ file) due
      → (new : Kept) (row : Row) → new ≡ kept_after choice x tables k row
      → new ≡ after_row choice x tables k row
  after_is t new row now = now ∙ ap (λ stop. kept_by stop k (after_row choice x tables k row)) t.going

  stop_is : (t : Taken choice x tables header k switches number (Some line ∷ file) due)
      → (new : Kept) (row : Row) → new ≡ kept_after choice x tables k row
      → row_stop choice x tables t.rows row ≡ new.stop
  stop_is t new row now =
      sym (ap stop_of (standing-reading choice x tables k t.rows row t.stands))
      ∙ sym (ap (λ (one : Kept). one.stop) (after_is t new row now))

  pub taken_stop : Taken choice x tables header k switches number (Some line ∷ file) due
      → (new : Kept) (row : Row) (stop : Stop) → row_of header k.last x.start line ≡ Ok (Some row)
      → new ≡ kept_after choice x tables k row → new.stop ≡ Some stop
      → due ≡ Err (stop_said x.names number stop)
  taken_stop t new row stop is now stopped =
      sym (comes_by t (Ok (Some row)) is)
      ∙ ap (λ found. tallied choice x tables (unless_stopped x.names number found
      (rows_from choice x tables header (row ∷ t.rows) (number + 1) file)))
      (stop_is t new row now ∙ stopped)

  pub taken_row : (t : Taken choice x tables header k switches number (Some line ∷ file) due)
      → (new : Kept) (row : Row) (more : ℕ) → row_of header k.last x.start line ≡ Ok (Some row)
      → IsMoment row.moment → new ≡ kept_after choice x tables k row → new.stop ≡ None
      → more ≡ changes (controlled_settings x k.standings) (controlled_settings x new.standings)
      → Taken choice x tables header new (switches + more) (number + 1) file due
  taken_row t new row more is is_moment now going counts =
      let stands : StandsFor choice x tables new (row ∷ t.rows) =
      subst (λ one. StandsFor choice x tables one (row ∷ t.rows)) (sym (after_is t new row now))
      (standing-with choice x tables k t.rows row t.rules.formed t.going t.stands) in
      record {
        rules = t.rules;
        columns = t.columns;
        going = going;
        rows = row ∷ t.rows;
        stands = stands;
        fits = taken_fits t row is is_moment;
        counted = ap (λ n. switches + n) counts
            ∙ (λ i. t.counted i + changes (controlled_settings x (t.stands.standings i))
            (controlled_settings x (stands.standings i)));
        comes = sym (ap (λ found. tallied choice x tables (unless_stopped x.names number found
            (rows_from choice x tables header (row ∷ t.rows) (number + 1) file)))
            (stop_is t new row now ∙ going))
            ∙ comes_by t (Ok (Some row)) is;
      }

-- a line that is too long
pub taken_long : (choice : Choice) (x : Rules) (tables : TableSet) (header : Columns) (k : Kept)
    (switches number : ℕ) (file : List (Option (List ℕ))) (due : Result Tally (List ℕ))
    → Taken choice x tables header k switches number (None ∷ file) due
    → due ≡ Err (fault_said number LineTooLong)
taken_long choice x tables header k switches number file due t = sym t.comes

-- no line is left
pub taken_all : (choice : Choice) (x : Rules) (tables : TableSet) (header : Columns) (k : Kept)
    (switches number : ℕ) (settings : List Rational) (due : Result Tally (List ℕ))
    → Taken choice x tables header k switches number [] due
    → settings ≡ controlled_settings x k.standings
    → due ≡ Ok (tally_with settings switches)
taken_all choice x tables header k switches number settings due t are =
    sym t.comes
    ∙ (λ i. Ok (tally_with (sym (are ∙ ap (controlled_settings x) t.stands.standings) i) (sym t.counted i)))

-- the same under other names
pub taken_under : (choice other : Choice) (x y : Rules) (tables held : TableSet) (header : Columns)
    (k : Kept) (switches number : ℕ) (file : List (Option (List ℕ))) (due : Result Tally (List ℕ))
    → other ≡ choice → y ≡ x → held ≡ tables
    → Taken choice x tables header k switches number file due
    → Taken other y held header k switches number file due
taken_under choice other x y tables held header k switches number file due one two three t =
    subst (λ c. Taken c y held header k switches number file due) (sym one)
    (subst (λ r. Taken choice r held header k switches number file due) (sym two)
    (subst (λ s. Taken choice x s header k switches number file due) (sym three) t))

pub taken_lines : (choice : Choice) (x : Rules) (tables : TableSet) (header : Columns) (k : Kept)
    (switches number : ℕ) (file other : List (Option (List ℕ))) (due : Result Tally (List ℕ))
    → file ≡ other → Taken choice x tables header k switches number file due
    → Taken choice x tables header k switches number other due
taken_lines choice x tables header k switches number file other due same t =
    subst (λ lines. Taken choice x tables header k switches number lines due) same t

-- ---- what a replay answers
pub goes_on : (old new : Option Stop) (done : Unit {0}) → old ≡ None → Ok done ≡ row_answer old new
    → new ≡ None
goes_on (Some stop) new done none answer = cc
goes_on None None done none answer = refl
goes_on None (Some stop) done none answer = cc

pub stops : (old new : Option Stop) (end : RowStop) → old ≡ None → Err end ≡ row_answer old new
    → new ≡ Some (stop_in end)
stops (Some stop) new end none answer = cc
stops None None end none answer = cc
stops None (Some stop) end none answer =
    let same : end ≡ row_stopped.Stop stop = cc in ap (λ found. Some (stop_in found)) (sym same)

-- the same rules and the same moment before, under other names
pub read_by : (header : Columns) (line : List ℕ) (x rules : Rules) (before last : Option ℤ)
    (read : Result (Option Row) TraceCause) → rules ≡ x → last ≡ before
    → row_of header last rules.start line ≡ read → row_of header before x.start line ≡ read
read_by header line x rules before last read same then_last is =
    ap (λ one. row_of header one x.start line) (sym then_last)
    ∙ ap (λ (one : Rules). row_of header last one.start line) (sym same) ∙ is
