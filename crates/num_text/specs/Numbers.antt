-- Numbers as they are written in the input: sign, digits, point, decimals, exponent.
use Rattle.std.specs.Prelude.{ℕ, suc, ◌-◌, ◌*◌, ◌^◌, Bool, true, false, ◌&&◌, ◌||◌, ◌==◌, if◌then◌else◌, List, [], ◌∷◌, ◌++◌, length, Option, None, Some, Result, Ok, Err, ℤ, pos, negsuc, neg_ℤ, ◌+ℤ◌, ◌-ℤ◌, int_le}
use Rattle.std.specs.Option.{option_map}
use Rattle.std.specs.List.{list_all}
use Rattle.std.specs.Str.Parse.{digits_value}
use Rattle.exact_fraction.specs.Number.{Rational, ratio, zero, fits}
use Rattle.num_text.specs.Bytes.{point, plus, minus, small_e, capital_e, zero_digit}
use Rattle.num_text.specs.Fields.{leading_digits, past_digits, field, is_end, last_number}
use Rattle.num_text.specs.declared.error.NumberFault.{NumberFault}
use Rattle.num_text.specs.declared.error.NumberFault.TheVariants.{BadNumber, TooLarge}

-- the text begins with a minus
abbrev pub is_negative : List ℕ → Bool
is_negative [] = false
is_negative (byte ∷ bytes) = byte == minus

-- the text behind its sign, if it begins with one
abbrev pub past_sign : List ℕ → List ℕ
past_sign [] = []
past_sign (byte ∷ bytes) = if byte == minus || byte == plus then bytes else byte ∷ bytes

-- a size with its sign
abbrev pub signed : Bool → ℕ → ℤ
signed true size = neg_ℤ (pos size)
signed false size = pos size

-- a spelling of a number: its sign, the digits before and behind its point, and its exponent
pub record Spelling : Type 0 where
  pub negative : Bool
  pub whole : List ℕ
  pub behind : List ℕ
  pub exponent : ℤ

-- the digits behind a point at the head of a text, and none where it has no point
abbrev pub point_digits : List ℕ → List ℕ
point_digits [] = []
point_digits (byte ∷ bytes) = if byte == point then leading_digits bytes else []

-- what stands behind the point and its digits
abbrev pub past_point : List ℕ → List ℕ
past_point [] = []
past_point (byte ∷ bytes) = if byte == point then past_digits bytes else byte ∷ bytes

-- an optional sign and one to three digits
abbrev pub exponent_digits : List ℕ → Option ℤ
exponent_digits text =
    option_map (signed (is_negative text)) (last_number (field 1 3 (past_sign text)))

-- the exponent that ends a number: an `e` or `E` with its digits, or 0 where the text ends
abbrev pub exponent_of : List ℕ → Option ℤ
exponent_of [] = Some (pos 0)
exponent_of (byte ∷ bytes) =
    if byte == small_e || byte == capital_e then exponent_digits bytes else None

-- how an unsigned text spells a number, if it does: digits before or behind a point, or both, and
-- an exponent
unfoldable pub spelling_of : Bool → List ℕ → Option Spelling
spelling_of negative text =
    if is_end (leading_digits text ++ point_digits (past_digits text)) then None
    else option_map
    (λ exponent. record {
      negative = negative;
      whole = leading_digits text;
      behind = point_digits (past_digits text);
      exponent = exponent;
    })
    (exponent_of (past_point (past_digits text)))

-- digits without the zeros at their end
unfoldable pub without_end_zeros : List ℕ → List ℕ
without_end_zeros [] = []
without_end_zeros (digit ∷ digits) =
    if list_all (λ d. d == zero_digit) (digit ∷ digits) then []
    else digit ∷ without_end_zeros digits

-- the significand of digits, which is 0 or not divisible by 10: the number that they write without
-- the zeros at their end
abbrev pub significand : List ℕ → ℕ
significand digits = digits_value 10 (without_end_zeros digits)

-- how many zeros digits end with
abbrev pub end_zeros : List ℕ → ℕ
end_zeros digits = length digits - length (without_end_zeros digits)

-- a significand times a power of ten
unfoldable pub scaled : Bool → ℕ → ℤ → Rational
scaled negative size (pos power) = ratio (signed negative (size * 10 ^ power)) 1
scaled negative size (negsuc power) = ratio (signed negative size) (10 ^ suc power)

-- the power of ten is from -18 to 18, and the number fits
abbrev pub is_in_bounds : Bool → ℕ → ℤ → Bool
is_in_bounds negative size power =
    int_le (negsuc 17) power && int_le power (pos 18) && fits (scaled negative size power)

-- a significand times a power of ten: 0 where the significand is 0, and else in its bounds
unfoldable pub bounded : Bool → ℕ → ℤ → Result Rational NumberFault
bounded negative size power =
    if size == 0 then Ok zero
    else
    (if is_in_bounds negative size power then Ok (scaled negative size power) else Err TooLarge)

-- the power of ten that a spelling's significand has
abbrev pub power_of : Spelling → ℤ
power_of s = s.exponent -ℤ pos (length s.behind) +ℤ pos (end_zeros (s.whole ++ s.behind))

-- the number that a spelling writes, or why there is none
unfoldable pub spelled : Option Spelling → Result Rational NumberFault
spelled None = Err BadNumber
spelled (Some s) = bounded s.negative (significand (s.whole ++ s.behind)) (power_of s)

-- the number that a text writes, or why there is none
abbrev pub number_of : List ℕ → Result Rational NumberFault
number_of text = spelled (spelling_of (is_negative text) (past_sign text))

-- the number that a reading gave, or None
abbrev pub number_if_read : Result Rational NumberFault → Option Rational
number_if_read (Ok q) = Some q
number_if_read (Err fault) = None

-- the number that a text writes, or None where it is no number or one that is too large
abbrev pub number_in : List ℕ → Option Rational
number_in text = number_if_read (number_of text)

-- the ratio where it fits, and else TooLarge
abbrev pub in_bounds : Rational → Result Rational NumberFault
in_bounds q = if fits q then Ok q else Err TooLarge
