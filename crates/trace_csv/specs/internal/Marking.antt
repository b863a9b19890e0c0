-- The inputs that columns give, as marks.
use Rattle.std.specs.Prelude.{ℕ, Bool, true, false, List, Option, Some, None, map, get_or}
use Rattle.std.specs.Prelude.{slice_set, not, if◌then◌else◌}
use Rattle.std.specs.List.{range_with_len}
use Rattle.trace_csv.specs.Columns.{is_given, are_given, has_duplicate}
use Rattle.trace_csv.specs.declared.fault.TraceCause.{TraceCause}
use Rattle.trace_csv.specs.declared.fault.TraceCause.TheVariants.{DuplicateColumn, MissingColumn}

-- for each of so many inputs, whether some of these columns gives it
unfoldable pub marks : List (Option ℕ) → ℕ → List Bool
marks columns inputs = map (is_given columns) (range_with_len 0 inputs)

-- whether the input that a column gives is marked
abbrev pub marked : List Bool → Option ℕ → Bool
marked given None = false
marked given (Some place) = get_or given place false

-- the marks with that of one more column
abbrev pub with_mark : List Bool → Option ℕ → List Bool
with_mark given None = given
with_mark given (Some place) = slice_set given place true

-- the first fault of columns, if they have one
abbrev pub fault_of_columns : List (Option ℕ) → ℕ → Option TraceCause
fault_of_columns columns inputs =
    if has_duplicate columns then Some DuplicateColumn
    else (if not (are_given columns inputs) then Some MissingColumn else None)
