-- A header has as many inputs as the rules have input keys.
use Rattle.std.proofs.Common.{◌≡◌, ℕ, Bool, true, false, not, cond, List, length, map, Option, Some, None, Result, Ok, Err, refl, ap, sym, ◌∙◌}
use Rattle.std.specs.Prelude.{codes}
use Rattle.std.specs.Str.{str_eq_ignore_ascii_case}
use Rattle.rule_types.specs.declared.key.Key.{Key}
use Rattle.object_index.specs.Objects.{Objects}
use Rattle.trace_csv.specs.Columns.{Columns, column_input, has_duplicate, are_given, checked_columns, header_in, when_read, some_header, header_of}
use Rattle.trace_csv.specs.Fields.{trimmed, first_field, further_fields}
use Rattle.trace_csv.specs.Records.{record_of}
use Rattle.trace_csv.specs.declared.fault.TraceCause.{TraceCause}
use Rattle.trace_csv.specs.declared.fault.TraceCause.TheVariants.{BadHeader, DuplicateColumn, MissingColumn}

columns_by : (columns : List (Option ℕ)) (inputs : ℕ) (twice missing : Bool) (header : Columns)
    → cond twice (Err DuplicateColumn) (cond missing (Err MissingColumn) (Ok (record { columns = columns; inputs = inputs }))) ≡ Ok header
    → header.inputs ≡ inputs
columns_by columns inputs true missing header is = cc
columns_by columns inputs false true header is = cc
columns_by columns inputs false false header is =
    let same : record { columns = columns; inputs = inputs } ≡ header = cc in sym (ap (λ (h : Columns). h.inputs) same)

word_by : (keys : List Key) (columns : List (Option ℕ)) (wrong : Bool) (header : Columns)
    → cond wrong (Err BadHeader) (checked_columns columns (length keys)) ≡ Ok header → header.inputs ≡ length keys
word_by keys columns true header is = cc
word_by keys columns false header is =
    columns_by columns (length keys) (has_duplicate columns) (not (are_given columns (length keys))) header is

fields_inputs : (keys : List Key) (objects : Objects) (fields : List (List ℕ)) (header : Columns) → header_in keys objects fields ≡ Ok header
    → header.inputs ≡ length keys
unfolding header_in
fields_inputs keys objects fields header is =
    word_by keys (map (column_input keys objects) (further_fields fields))
    (not (str_eq_ignore_ascii_case (trimmed (first_field fields)) (codes "moment"))) header is

header_by_read : (keys : List Key) (read : Result Columns TraceCause) (header : Columns) → ((found : Columns) → read ≡ Ok found → found.inputs ≡ length keys)
    → when_read read ≡ Ok (Some header) → header.inputs ≡ length keys
header_by_read keys (Ok found) header inputs is =
    let same : found ≡ header = cc in sym (ap (λ (h : Columns). h.inputs) same) ∙ inputs found refl
header_by_read keys (Err cause) header inputs is = cc

by_record : (keys : List Key) (objects : Objects) (fields : Option (List (List ℕ))) (header : Columns)
    → some_header keys objects fields ≡ Ok (Some header) → header.inputs ≡ length keys
by_record keys objects None header is = cc
by_record keys objects (Some fields) header is =
    header_by_read keys (header_in keys objects fields) header (λ found read. fields_inputs keys objects fields found read) is

pub header_inputs : (keys : List Key) (objects : Objects) (line : List ℕ) (header : Columns) → header_of keys objects line ≡ Ok (Some header)
    → header.inputs ≡ length keys
unfolding header_of
header_inputs keys objects line header is = by_record keys objects (record_of line) header is
