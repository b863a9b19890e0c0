-- The inputs of a row as they are filled in, column by column.
use Rattle.std.specs.Prelude.{ℕ, ◌<◌, Bool, true, false, List, [], ◌∷◌, Option, Some, None, Result}
use Rattle.std.specs.Prelude.{Ok, Err, IfSome, option_and_then, slice_set, ℤ}
use Rattle.std.specs.List.{list_all}
use Rattle.exact_fraction.specs.Number.{Rational}
use Rattle.num_text.specs.declared.error.NumberFault.{NumberFault}
use Rattle.rule_types.specs.declared.row.Row.{Row}
use Rattle.trace_csv.specs.Fields.{field_input}
use Rattle.trace_csv.specs.Records.{cut_at_commas, is_plain}
use Rattle.trace_csv.specs.declared.fault.TraceCause.{TraceCause}
use Rattle.trace_csv.specs.declared.fault.TraceEnd.{TraceEnd}
use Rattle.trace_csv.specs.declared.fault.TraceEnd.TheVariants.{Fault}

-- the input of a column lies among so many
abbrev pub Within : ℕ → Option ℕ → Type 0
Within inputs column = IfSome column (λ place. place < inputs)

-- the inputs with one more at its place, if it was read
abbrev pub set_read : ℕ → Result (Option Rational) NumberFault → List (Option Rational)
    → Option (List (Option Rational))
set_read place (Err fault) inputs = None
set_read place (Ok input) inputs = Some (slice_set inputs place input)

-- the inputs with what the field of one more column says
abbrev pub put_field : Option ℕ → List ℕ → List (Option Rational) → Option (List (Option Rational))
put_field None field inputs = Some inputs
put_field (Some place) field inputs = set_read place (field_input field) inputs

-- the inputs with what the fields of these columns say, or nothing where one of them is bad
unfoldable pub filled : List (Option ℕ) → List (List ℕ) → List (Option Rational)
    → Option (List (Option Rational))
filled [] fields inputs = Some inputs
filled (column ∷ columns) [] inputs = Some inputs
filled (column ∷ columns) (field ∷ fields) inputs =
    option_and_then (filled columns fields) (put_field column field inputs)

-- inputs that count where a test passed
abbrev pub where_good : Bool → List (Option Rational) → Option (List (Option Rational))
where_good true inputs = Some inputs
where_good false inputs = None

-- the fields behind a comma, and none where there is no comma
abbrev pub cut_behind : Option (List ℕ) → List (List ℕ)
cut_behind None = []
cut_behind (Some text) = cut_at_commas text

-- whether the text behind a comma, if there is one, has no double quote, CR and LF
abbrev pub is_plain_behind : Option (List ℕ) → Bool
is_plain_behind None = true
is_plain_behind (Some text) = list_all is_plain text

-- a row of a moment that was read, and the inputs that were filled in
abbrev pub row_with : List (Option Rational) → Result ℤ TraceCause → Result Row TraceCause
row_with inputs (Err cause) = Err cause
row_with inputs (Ok moment) = Ok (record { moment = moment; inputs = inputs })

abbrev pub answer_with : List (Option Rational) → Result (Option ℤ) TraceEnd
    → Result (Option Row) TraceEnd
answer_with inputs (Err end) = Err end
answer_with inputs (Ok None) = Ok None
answer_with inputs (Ok (Some moment)) = Ok (Some (record { moment = moment; inputs = inputs }))

-- the answer for a row that was read or has a fault
abbrev pub end_of : Result ℤ TraceCause → Result (Option ℤ) TraceEnd
end_of (Ok moment) = Ok (Some moment)
end_of (Err cause) = Err (Fault cause)
