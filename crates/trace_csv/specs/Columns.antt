-- The header of a trace: `moment`, and for each further column the input that it gives, if it gives
-- one that the rules read.
use Rattle.std.specs.Prelude.{ℕ, Bool, false, not, ◌||◌, ◌==◌, List, [], ◌∷◌, length, map}
use Rattle.std.specs.Prelude.{codes}
use Rattle.std.specs.Prelude.{Option, Some, None, Result, Ok, Err, if◌then◌else◌, option_and_then}
use Rattle.std.specs.List.{list_any, list_all, range_with_len, position}
use Rattle.std.specs.Str.{bytes_eq, str_eq_ignore_ascii_case}
use Rattle.inp_text.specs.Items.{items}
use Rattle.rule_types.specs.declared.key.Attr.{Attr}
use Rattle.rule_types.specs.declared.key.Key.{Key}
use Rattle.rule_types.specs.declared.key.Key.TheVariants.{Object}
use Rattle.rule_types.specs.declared.object.ObjectNo.{ObjectNo}
use Rattle.rule_types.specs.declared.object.ObjectWord.{ObjectWord}
use Rattle.rule_types.specs.KeyOrder.{key_place}
use Rattle.object_index.specs.Objects.{Objects, resolution}
use Rattle.object_index.specs.declared.unresolved.Unresolved.{Unresolved}
use Rattle.key_words.specs.Words.{object_word, attribute_of}
use Rattle.trace_csv.specs.Fields.{trimmed, first_field, further_fields}
use Rattle.trace_csv.specs.Records.{record_of}
use Rattle.trace_csv.specs.declared.fault.TraceCause.{TraceCause}
use Rattle.trace_csv.specs.declared.fault.TraceCause.TheVariants.{BadHeader, DuplicateColumn}
use Rattle.trace_csv.specs.declared.fault.TraceCause.TheVariants.{MissingColumn}

-- What a header says of the columns behind the first: for each the place, among the input keys of
-- the rules, of the key that it gives, or nothing where it is unread. With it stands the number of
-- input keys.
pub record Columns : Type 0 where
  pub columns : List (Option ℕ)
  pub inputs : ℕ

-- ---- the key that a column's name names
-- the key of an object and an attribute, where both are found
abbrev pub found_key : Attr → Result ObjectNo Unresolved → Option Key
found_key attribute (Ok object) = Some (Object object attribute)
found_key attribute (Err fault) = None

-- the key of an object word, a name and an attribute of that word
abbrev pub object_key : Objects → ObjectWord → List ℕ → Option Attr → Option Key
object_key objects word name None = None
object_key objects word name (Some attribute) = found_key attribute (resolution objects word name)

abbrev pub key_of_word : Objects → Option ObjectWord → List ℕ → List ℕ → Option Key
key_of_word objects None name attribute = None
key_of_word objects (Some word) name attribute =
    object_key objects word name (attribute_of word attribute)

-- the key that three items name, `OBJ name ATTRIBUTE`, and none of any other items
abbrev pub key_of_items : Objects → List (List ℕ) → Option Key
key_of_items objects [] = None
key_of_items objects (word ∷ []) = None
key_of_items objects (word ∷ name ∷ []) = None
key_of_items objects (word ∷ name ∷ attribute ∷ []) =
    key_of_word objects (object_word word) name attribute
key_of_items objects (word ∷ name ∷ attribute ∷ next ∷ more) = None

-- the key that a column's name names: its items are those of an input line, so a semicolon begins a
-- comment
unfoldable pub column_key : Objects → List ℕ → Option Key
column_key objects name = key_of_items objects (items name)

-- the place of a key among the input keys, if it is one of them
unfoldable pub key_at : List Key → Key → Option ℕ
key_at keys key = position (λ other. bytes_eq (key_place key) (key_place other)) keys

-- the place of the input that a column gives, by its name
unfoldable pub column_input : List Key → Objects → List ℕ → Option ℕ
column_input keys objects name = option_and_then (key_at keys) (column_key objects name)

-- ---- the columns of a header
-- whether a column gives the input at a place
abbrev pub gives : ℕ → Option ℕ → Bool
gives place None = false
gives place (Some other) = place == other

-- whether some column gives the input at a place
abbrev pub is_given : List (Option ℕ) → ℕ → Bool
is_given columns place = list_any (gives place) columns

-- whether one of these columns gives the same input as a column
abbrev pub is_repeated : Option ℕ → List (Option ℕ) → Bool
is_repeated None columns = false
is_repeated (Some place) columns = is_given columns place

-- whether two columns give one input
abbrev pub has_duplicate : List (Option ℕ) → Bool
has_duplicate [] = false
has_duplicate (column ∷ columns) = is_repeated column columns || has_duplicate columns

-- whether each of so many inputs is given by some column
abbrev pub are_given : List (Option ℕ) → ℕ → Bool
are_given columns inputs = list_all (is_given columns) (range_with_len 0 inputs)

-- the columns, if no input is given twice and each is given
abbrev pub checked_columns : List (Option ℕ) → ℕ → Result Columns TraceCause
checked_columns columns inputs =
    if has_duplicate columns then Err DuplicateColumn
    else (if not (are_given columns inputs) then Err MissingColumn
    else Ok (record { columns = columns; inputs = inputs }))

-- the header that a record is: its first field is `moment`, in any case
unfoldable pub header_in : List Key → Objects → List (List ℕ) → Result Columns TraceCause
header_in keys objects fields =
    if not (str_eq_ignore_ascii_case (trimmed (first_field fields)) (codes "moment"))
    then Err BadHeader
    else checked_columns (map (column_input keys objects) (further_fields fields)) (length keys)

-- what was read, as something
abbrev pub when_read : {A : Type 0} → Result A TraceCause → Result (Option A) TraceCause
when_read (Ok found) = Ok (Some found)
when_read (Err cause) = Err cause

-- the same, where there is a record
abbrev pub some_header : List Key → Objects → Option (List (List ℕ))
    → Result (Option Columns) TraceCause
some_header keys objects None = Ok None
some_header keys objects (Some fields) = when_read (header_in keys objects fields)

-- What a line is as the header of a trace for rules with these input keys, over these objects: the
-- columns, nothing where it has no record, or its first fault.
unfoldable pub header_of : List Key → Objects → List ℕ → Result (Option Columns) TraceCause
header_of keys objects line = some_header keys objects (record_of line)
