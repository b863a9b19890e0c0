-- A row that is read under a header of the rules can follow the rows before.
use Rattle.std.proofs.Common.{◌≡◌, ℕ, Bool, true, false, not, cond, List, [], ◌∷◌, length, Option, Some, None, Result, Ok, Err, refl, ◌∙◌, subst, ℤ, arith}
use Rattle.std.specs.Prelude.{◌≤ℤ◌, ◌<ℤ◌, int_lt, slice_get}
use Rattle.std.proofs.lemmas.Int.{ints}
use Rattle.std.proofs.lemmas.List.FromFn.{length-map-range_with_len}
use Rattle.exact_fraction.specs.Moments.{IsMoment}
use Rattle.rule_types.specs.declared.row.Row.{Row}
use Rattle.rule_types.specs.declared.rules.Rules.{Rules}
use Rattle.rule_types.specs.Tables.{TableSet}
use Rattle.rule_meaning.specs.Reading.{Choice}
use Rattle.rule_meaning.specs.Replay.{RowsFit, replayed_by, last_moment}
use Rattle.num_text.specs.Clocks.{moment_of}
use Rattle.trace_csv.specs.Columns.{Columns, when_read}
use Rattle.trace_csv.specs.Fields.{trimmed, first_field, further_fields}
use Rattle.trace_csv.specs.Records.{record_of}
use Rattle.trace_csv.specs.Rows.{is_later, begins_early, moment_checked, moment_in, has_bad, input_in, field_under, inputs_of, row_at, row_in, some_row, row_of}
use Rattle.trace_csv.specs.declared.fault.TraceCause.{TraceCause}
use Rattle.trace_csv.specs.declared.fault.TraceCause.TheVariants.{FieldCount, NotLater, BeforeStart, BadNumber}
use Rattle.replay_text.specs.Replays.{moment_before}

-- what the checks of a line say of its row
record IsChecked (header : Columns) (last start : Option ℤ) (row : Row) : Type 0 where
  later : is_later last row.moment ≡ true
  early : begins_early last start row.moment ≡ false
  inputs : length row.inputs ≡ header.inputs

record IsTimed (last start : Option ℤ) (moment : ℤ) : Type 0 where
  later : is_later last moment ≡ true
  early : begins_early last start moment ≡ false

timed_by : (last start : Option ℤ) (found moment : ℤ) (later early : Bool) → is_later last found ≡ later → begins_early last start found ≡ early
    → cond (not later) (Err NotLater) (cond early (Err BeforeStart) (Ok found)) ≡ Ok moment → IsTimed last start moment
timed_by last start found moment true false one other is =
    let same : found ≡ moment = cc in subst (IsTimed last start) same (record { later = one; early = other })
timed_by last start found moment true true one other is = cc
timed_by last start found moment false early one other is = cc

timed : (last start : Option ℤ) (found : Option ℤ) (moment : ℤ) → moment_checked last start found ≡ Ok moment → IsTimed last start moment
timed last start None moment is = cc
timed last start (Some found) moment is =
    timed_by last start found moment (is_later last found) (begins_early last start found) refl refl is

inputs_long : (header : Columns) (fields : List (List ℕ)) → length (inputs_of header fields) ≡ header.inputs
unfolding inputs_of
inputs_long header fields = length-map-range_with_len (λ place. input_in (field_under place header.columns fields)) 0 header.inputs

checked_by : (header : Columns) (last start : Option ℤ) (fields : List (List ℕ)) (moment : ℤ) (bad : Bool) (row : Row) → IsTimed last start moment
    → cond bad (Err BadNumber) (Ok (record { moment = moment; inputs = inputs_of header fields })) ≡ Ok row → IsChecked header last start row
checked_by header last start fields moment true row in_time is = cc
checked_by header last start fields moment false row in_time is =
    let same : record { moment = moment; inputs = inputs_of header fields } ≡ row = cc in
    subst (IsChecked header last start) same (record { later = in_time.later; early = in_time.early; inputs = inputs_long header fields })

checked_at : (header : Columns) (last start : Option ℤ) (fields : List (List ℕ)) (read : Result ℤ TraceCause) (row : Row)
    → ((moment : ℤ) → read ≡ Ok moment → IsTimed last start moment)
    → row_at header fields read ≡ Ok row → IsChecked header last start row
checked_at header last start fields (Err cause) row in_time is = cc
checked_at header last start fields (Ok moment) row in_time is =
    checked_by header last start fields moment (has_bad header.columns fields) row (in_time moment refl) is

by_count : (header : Columns) (last start : Option ℤ) (fields : List (List ℕ)) (right : Bool) (read : Result ℤ TraceCause) (row : Row)
    → ((moment : ℤ) → read ≡ Ok moment → IsTimed last start moment)
    → cond (not right) (Err FieldCount) (row_at header fields read) ≡ Ok row → IsChecked header last start row
by_count header last start fields true read row in_time is = checked_at header last start fields read row in_time is
by_count header last start fields false read row in_time is = cc

moment_timed : (last start : Option ℤ) (field : List ℕ) (moment : ℤ) → moment_in last start field ≡ Ok moment → IsTimed last start moment
unfolding moment_in
moment_timed last start field moment is = timed last start (moment_of (trimmed field)) moment is

checked_in : (header : Columns) (last start : Option ℤ) (fields : List (List ℕ)) (row : Row) → row_in header last start fields ≡ Ok row → IsChecked header last start row
unfolding row_in
checked_in header last start fields row is =
    by_count header last start (further_fields fields) _ (moment_in last start (first_field fields)) row
    (λ moment read. moment_timed last start (first_field fields) moment read) is

by_read : (header : Columns) (last start : Option ℤ) (read : Result Row TraceCause) (row : Row)
    → ((found : Row) → read ≡ Ok found → IsChecked header last start found) → when_read read ≡ Ok (Some row) → IsChecked header last start row
by_read header last start (Ok found) row checked is =
    let same : found ≡ row = cc in subst (IsChecked header last start) same (checked found refl)
by_read header last start (Err cause) row checked is = cc

by_record : (header : Columns) (last start : Option ℤ) (fields : Option (List (List ℕ))) (row : Row)
    → some_row header last start fields ≡ Ok (Some row) → IsChecked header last start row
by_record header last start None row is = cc
by_record header last start (Some fields) row is =
    by_read header last start (row_in header last start fields) row (λ found read. checked_in header last start fields found read) is

checked : (header : Columns) (last start : Option ℤ) (line : List ℕ) (row : Row) → row_of header last start line ≡ Ok (Some row) → IsChecked header last start row
unfolding row_of
checked header last start line row is = by_record header last start (record_of line) row is

-- the moment is later than that of the row before, and not before the start
rising_by : (older : List Row) (moment : ℤ) (last : Row) → slice_get older 0 ≡ Some last
    → is_later (moment_before older) moment ≡ true → last.moment <ℤ moment
rising_by [] moment last is later = cc
rising_by (row ∷ older) moment last is later =
    let same : row ≡ last = cc in
    let rises : row.moment <ℤ moment = omega (arith, ints, later) in
    subst (λ (before : Row). before.moment <ℤ moment) same rises

started_by : (x : Rules) (older : List Row) (moment start : ℤ) → RowsFit x older → x.start ≡ Some start
    → is_later (moment_before older) moment ≡ true → begins_early (moment_before older) x.start moment ≡ false → start ≤ℤ moment
started_by x [] moment start fit is later early =
    let not_before : int_lt moment start ≡ false = subst (λ found. begins_early None found moment ≡ false) is early in
    omega (arith, ints, not_before)
started_by x (row ∷ older) moment start fit is later early =
    let begun : start ≤ℤ row.moment = fit.0.started start is in
    omega (arith, ints, later, begun)

-- the row
pub row_fits : (x : Rules) (header : Columns) (line : List ℕ) (rows : List Row) (row : Row) → header.inputs ≡ length x.input_keys
    → RowsFit x rows → IsMoment row.moment → row_of header (moment_before rows) x.start line ≡ Ok (Some row) → RowsFit x (row ∷ rows)
row_fits x header line rows row long fit is_moment is =
    let found : IsChecked header (moment_before rows) x.start row = checked header (moment_before rows) x.start line row is in (
      record {
        inputs = found.inputs ∙ long;
        moment = is_moment;
        started = λ start begins. started_by x rows row.moment start fit begins found.later found.early;
        rising = λ last before. rising_by rows row.moment last before found.later;
      },
      fit,
    )

-- the moment of the last row is that of the last state
pub last_is : (choice : Choice) (x : Rules) (tables : TableSet) (rows : List Row)
    → moment_before rows ≡ last_moment (replayed_by choice x tables rows)
last_is choice x tables [] = refl
last_is choice x tables (row ∷ older) = refl
