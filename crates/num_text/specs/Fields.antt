-- Numbers of digits in a text, and what stands behind them.
use Rattle.std.specs.Prelude.{ℕ, Bool, true, false, ◌&&◌, ◌==◌, nat_le, nat_lt, if◌then◌else◌, List, [], ◌∷◌, length, Option, None, Some, option_and_then}
use Rattle.std.specs.Char.{is_ascii_digit}
use Rattle.std.specs.Str.Parse.{digits_value}

-- the second step on what the first one gives, where it gives something
infixl 10 ◌>>=◌
abbrev pub ◌>>=◌ : {A B : Type 0} → Option A → (A → Option B) → Option B
found >>= next = option_and_then next found

-- the digits that a text begins with
unfoldable pub leading_digits : List ℕ → List ℕ
leading_digits [] = []
leading_digits (byte ∷ bytes) = if is_ascii_digit byte then byte ∷ leading_digits bytes else []

-- what stands behind them
unfoldable pub past_digits : List ℕ → List ℕ
past_digits [] = []
past_digits (byte ∷ bytes) = if is_ascii_digit byte then past_digits bytes else byte ∷ bytes

-- a number, and what stands behind it
pub record Field : Type 0 where
  pub number : ℕ
  pub rest : List ℕ

-- a text begins with `least` to `most` digits, and no more
abbrev pub begins_with_digits : ℕ → ℕ → List ℕ → Bool
begins_with_digits least most text =
    nat_le least (length (leading_digits text)) && nat_le (length (leading_digits text)) most

-- the number that a text begins with, where it has `least` to `most` digits
unfoldable pub field : ℕ → ℕ → List ℕ → Option Field
field least most text =
    if begins_with_digits least most text
    then Some (record { number = digits_value 10 (leading_digits text); rest = past_digits text })
    else None

-- the same of a number below `limit`
unfoldable pub field_below : ℕ → ℕ → ℕ → List ℕ → Option Field
field_below least most limit text =
    field least most text >>= λ found. if nat_lt found.number limit then Some found else None

-- what stands behind a byte at the head of a text
abbrev pub past : ℕ → List ℕ → Option (List ℕ)
past byte [] = None
past byte (first ∷ rest) = if first == byte then Some rest else None

-- nothing stands there
abbrev pub is_end : List ℕ → Bool
is_end [] = true
is_end (byte ∷ bytes) = false

-- the number of a field behind which the text ends
abbrev pub last_number : Option Field → Option ℕ
last_number found = found >>= λ last. if is_end last.rest then Some last.number else None
