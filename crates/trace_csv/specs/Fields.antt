-- The fields of a record.
use Rattle.std.specs.Prelude.{ℕ, Bool, false, true, List, [], ◌∷◌, Option, Some, None}
use Rattle.std.specs.Prelude.{Result, Ok, Err}
use Rattle.std.specs.Prelude.{if◌then◌else◌}
use Rattle.std.specs.List.{list_all}
use Rattle.exact_fraction.specs.Number.{Rational}
use Rattle.inp_text.specs.Items.{is_blank}
use Rattle.num_text.specs.declared.error.NumberFault.{NumberFault}
use Rattle.num_text.specs.Numbers.{number_of}

-- a text without the blanks at its start
abbrev pub without_front_blanks : List ℕ → List ℕ
without_front_blanks [] = []
without_front_blanks (byte ∷ bytes) =
    if is_blank byte then without_front_blanks bytes else byte ∷ bytes

-- a text without the blanks at its end
unfoldable pub without_end_blanks : List ℕ → List ℕ
without_end_blanks [] = []
without_end_blanks (byte ∷ bytes) =
    if list_all is_blank (byte ∷ bytes) then [] else byte ∷ without_end_blanks bytes

-- a field without the spaces and tabs round it
abbrev pub trimmed : List ℕ → List ℕ
trimmed field = without_end_blanks (without_front_blanks field)

-- the first field of a record, and the fields behind it; a record has a field
abbrev pub first_field : List (List ℕ) → List ℕ
first_field [] = []
first_field (field ∷ fields) = field

abbrev pub further_fields : List (List ℕ) → List (List ℕ)
further_fields [] = []
further_fields (field ∷ fields) = fields

-- what a text says of an input: that it is missing where the text is empty, else its number, if it
-- is one that is not too large
abbrev pub some_read : Result Rational NumberFault → Result (Option Rational) NumberFault
some_read (Ok q) = Ok (Some q)
some_read (Err fault) = Err fault

abbrev pub input_of : List ℕ → Result (Option Rational) NumberFault
input_of [] = Ok None
input_of (byte ∷ bytes) = some_read (number_of (byte ∷ bytes))

-- what a field says of an input
unfoldable pub field_input : List ℕ → Result (Option Rational) NumberFault
field_input field = input_of (trimmed field)

-- whether a reading gave a fault, and the number that it gave
abbrev pub is_fault : Result (Option Rational) NumberFault → Bool
is_fault (Ok input) = false
is_fault (Err fault) = true

abbrev pub input_given : Result (Option Rational) NumberFault → Option Rational
input_given (Ok input) = input
input_given (Err fault) = None
