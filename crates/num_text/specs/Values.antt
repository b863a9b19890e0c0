-- Values as they are written in reports.
use Rattle.std.specs.Prelude.{ℕ, ◌*◌, ◌/◌, ◌%◌, ◌^◌, Bool, ◌==◌, if◌then◌else◌, List, [], ◌∷◌, ◌++◌, codes, decimal, length, ◌+◌, Option, None, Some, ℤ, pos, negsuc, unsigned_abs}
use Rattle.exact_fraction.specs.Number.{Rational, den}
use Rattle.std.specs.Str.Parse.{digits_value}
use Rattle.exact_fraction.specs.Checked.{made}
use Rattle.num_text.specs.Bytes.{point, minus, slash}
use Rattle.num_text.specs.Fields.{◌>>=◌, field, last_number, past}
use Rattle.num_text.specs.Pointed.{decimals}
use Rattle.num_text.specs.Numbers.{without_end_zeros, is_negative, signed}
use Rattle.num_text.specs.Written.{places}

-- a minus before a negative number
abbrev pub written_sign : ℤ → List ℕ
written_sign (pos size) = []
written_sign (negsuc size) = codes "-"

-- the point and the decimals, and nothing where there are none
abbrev pub written_behind : List ℕ → List ℕ
written_behind [] = []
written_behind (digit ∷ digits) = point ∷ digit ∷ digits

-- so many units of 10^-18 as a decimal: the whole part, and the decimals without the zeros at their
-- end
unfoldable pub written_units : ℕ → List ℕ
written_units units =
    decimal (units / 10 ^ 18) ++ written_behind (without_end_zeros (places 18 (units % 10 ^ 18)))

-- a size over a denominator: as a decimal where the denominator divides 10^18, and else as a
-- fraction
unfoldable pub written_size : ℕ → ℕ → List ℕ
written_size size below =
    if 10 ^ 18 % below == 0 then written_units (size * (10 ^ 18 / below))
    else decimal size ++ codes "/" ++ decimal below

-- the written value of a number
unfoldable pub written_value : Rational → List ℕ
written_value q = written_sign q.num ++ written_size (unsigned_abs q.num) (den q)

-- the text behind a minus, if it begins with one
abbrev pub past_minus : List ℕ → List ℕ
past_minus [] = []
past_minus (byte ∷ bytes) = if byte == minus then bytes else byte ∷ bytes

-- the number of a sign, a whole number and digits behind a point
abbrev pub with_decimals : Bool → ℕ → List ℕ → Option Rational
with_decimals negative whole behind =
    made
    (signed negative (whole * 10 ^ length behind + digits_value 10 behind))
    (pos (10 ^ length behind))

-- the number of a text that a whole number and its decimals or its denominator stand in, with zeros
-- or without
abbrev pub spelled_behind : Bool → ℕ → List ℕ → Option (List ℕ) → Option Rational
spelled_behind negative whole rest None =
    decimals 18 rest >>= λ behind. with_decimals negative whole behind
spelled_behind negative whole rest (Some below) =
    last_number (field 1 19 below) >>= λ denominator. made (signed negative whole) (pos denominator)

-- the same of the whole text, with its sign
unfoldable pub spelled_value : List ℕ → Option Rational
spelled_value text =
    field 1 19 (past_minus text) >>= λ front.
    spelled_behind (is_negative text) front.number front.rest (past slash front.rest)
