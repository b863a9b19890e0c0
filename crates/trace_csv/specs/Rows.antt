-- The rows of a trace: a moment, and what each needed field says of its input.
use Rattle.std.specs.Prelude.{ℕ, ◌+◌, Bool, true, false, not, ◌||◌, ◌==◌, List, [], ◌∷◌, length}
use Rattle.std.specs.Prelude.{map}
use Rattle.std.specs.Prelude.{Option, Some, None, Result, Ok, Err, if◌then◌else◌, ℤ, int_lt}
use Rattle.std.specs.List.{range_with_len}
use Rattle.exact_fraction.specs.Number.{Rational}
use Rattle.num_text.specs.Clocks.{moment_of}
use Rattle.rule_types.specs.declared.row.Row.{Row}
use Rattle.trace_csv.specs.Columns.{Columns, gives, when_read}
use Rattle.trace_csv.specs.Fields.{trimmed, first_field, further_fields, field_input, is_fault}
use Rattle.trace_csv.specs.Fields.{input_given}
use Rattle.trace_csv.specs.Records.{record_of}
use Rattle.trace_csv.specs.declared.fault.TraceCause.{TraceCause}
use Rattle.trace_csv.specs.declared.fault.TraceCause.TheVariants.{FieldCount, BadMoment, NotLater}
use Rattle.trace_csv.specs.declared.fault.TraceCause.TheVariants.{BeforeStart, BadNumber}

-- the number of fields of a header: `moment` and the further columns
abbrev pub width : Columns → ℕ
width header = 1 + length header.columns

-- the field under the column that gives the input at a place
abbrev pub field_under : ℕ → List (Option ℕ) → List (List ℕ) → Option (List ℕ)
field_under place [] fields = None
field_under place (column ∷ columns) [] = None
field_under place (column ∷ columns) (field ∷ fields) =
    if gives place column then Some field else field_under place columns fields

-- the input that a field says
abbrev pub input_in : Option (List ℕ) → Option Rational
input_in None = None
input_in (Some field) = input_given (field_input field)

-- the inputs of a row: each as the field under its column says
unfoldable pub inputs_of : Columns → List (List ℕ) → List (Option Rational)
inputs_of header fields =
    map (λ place. input_in (field_under place header.columns fields))
    (range_with_len 0 header.inputs)

-- whether a field under a column that gives an input is no number and is not empty, or too large
abbrev pub is_bad : Option ℕ → List ℕ → Bool
is_bad None field = false
is_bad (Some place) field = is_fault (field_input field)

unfoldable pub has_bad : List (Option ℕ) → List (List ℕ) → Bool
has_bad [] fields = false
has_bad (column ∷ columns) [] = false
has_bad (column ∷ columns) (field ∷ fields) = is_bad column field || has_bad columns fields

-- ---- moments
-- whether a moment is later than that of the row before, if there is one
abbrev pub is_later : Option ℤ → ℤ → Bool
is_later None moment = true
is_later (Some last) moment = int_lt last moment

-- whether a moment lies before a start, if one is given
abbrev pub is_before : Option ℤ → ℤ → Bool
is_before None moment = false
is_before (Some start) moment = int_lt moment start

-- whether a row is the first of its trace and lies before the start
abbrev pub begins_early : Option ℤ → Option ℤ → ℤ → Bool
begins_early None start moment = is_before start moment
begins_early (Some last) start moment = false

-- ---- the row of a record
-- a moment after the row before, in a trace with this start
abbrev pub moment_checked : Option ℤ → Option ℤ → Option ℤ → Result ℤ TraceCause
moment_checked last start None = Err BadMoment
moment_checked last start (Some moment) =
    if not (is_later last moment) then Err NotLater
    else (if begins_early last start moment then Err BeforeStart else Ok moment)

-- the moment that a field is
unfoldable pub moment_in : Option ℤ → Option ℤ → List ℕ → Result ℤ TraceCause
moment_in last start field = moment_checked last start (moment_of (trimmed field))

-- the row of a moment and the fields behind it
abbrev pub row_at : Columns → List (List ℕ) → Result ℤ TraceCause → Result Row TraceCause
row_at header fields (Err cause) = Err cause
row_at header fields (Ok moment) =
    if has_bad header.columns fields then Err BadNumber
    else Ok (record { moment = moment; inputs = inputs_of header fields })

-- the row that a record is, under a header, after a row at the moment `last` if there is one
unfoldable pub row_in : Columns → Option ℤ → Option ℤ → List (List ℕ) → Result Row TraceCause
row_in header last start fields =
    if not (length fields == width header) then Err FieldCount
    else row_at header (further_fields fields) (moment_in last start (first_field fields))

-- the same, where there is a record
abbrev pub some_row : Columns → Option ℤ → Option ℤ → Option (List (List ℕ))
    → Result (Option Row) TraceCause
some_row header last start None = Ok None
some_row header last start (Some fields) = when_read (row_in header last start fields)

-- What a line is as a row under a header, where the row before has the moment `last` (nothing for
-- the first row) and the rules have the start `start`: a row, nothing where it has no record, or
-- its first fault.
unfoldable pub row_of : Columns → Option ℤ → Option ℤ → List ℕ → Result (Option Row) TraceCause
row_of header last start line = some_row header last start (record_of line)
