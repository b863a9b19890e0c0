-- Counts, as reports write them.
use Rattle.std.specs.Prelude.{ℕ, ◌^◌, Bool, false, ◌&&◌, ◌==◌, nat_lt, if◌then◌else◌, List, [], ◌∷◌, length, Option, None, Some}
use Rattle.std.specs.Str.Parse.{digits_value}
use Rattle.num_text.specs.Bytes.{zero_digit}
use Rattle.num_text.specs.Fields.{◌>>=◌}
use Rattle.num_text.specs.Pointed.{last_digits}

-- a zero stands before other digits
abbrev pub is_padded : List ℕ → Bool
is_padded [] = false
is_padded (digit ∷ digits) = digit == zero_digit && nat_lt 0 (length digits)

-- the number that digits write, below 2^64
abbrev pub count_in : List ℕ → Option ℕ
count_in digits =
    if nat_lt (digits_value 10 digits) (2 ^ 64) then Some (digits_value 10 digits) else None

-- the count that a text writes: one to twenty digits without leading zeros, and nothing more
unfoldable pub count_of : List ℕ → Option ℕ
count_of text = do
  digits ← last_digits 20 text
  if is_padded digits then None else count_in digits
