-- How a number is written: `[sign] digits [. [digits]] [e [sign] digits]` or `[sign] . digits [e
-- [sign] digits]`, where the power of ten has one to three digits and its mark is `e` or `E`.
use Rattle.std.specs.Prelude.{◌≡◌, ℕ, ◌+◌, ◌≤◌, ◌⊎◌, Bool, true, false, IsTrue, List, [], ◌∷◌, ◌++◌, length, Option, None, Some, Result, ℤ, pos, ◌+ℤ◌, ◌-ℤ◌}
use Rattle.std.specs.List.{list_all}
use Rattle.std.specs.Char.{is_ascii_digit}
use Rattle.std.specs.Str.Parse.{digits_value}
use Rattle.exact_fraction.specs.Number.{Rational}
use Rattle.num_text.specs.Bytes.{point, plus, minus, small_e, capital_e}
use Rattle.num_text.specs.Numbers.{signed, significand, end_zeros, bounded}
use Rattle.num_text.specs.declared.error.NumberFault.{NumberFault}

-- a text is digits alone
abbrev pub AllDigits : List ℕ → Type 0
AllDigits text = IsTrue (list_all is_ascii_digit text)

-- a text is `least` to `most` digits, and nothing else
pub record IsDigits (least most : ℕ) (text : List ℕ) : Type 0 where
  pub alone : AllDigits text
  pub at_least : least ≤ length text
  pub at_most : length text ≤ most

-- a sign, or none
pub data Sign : Type 0 where
  NoSign : Sign
  Plus : Sign
  Minus : Sign

-- how a sign is written
abbrev pub sign_text : Sign → List ℕ
sign_text NoSign = []
sign_text Plus = plus ∷ []
sign_text Minus = minus ∷ []

-- a minus is written
abbrev pub is_minus : Sign → Bool
is_minus NoSign = false
is_minus Plus = false
is_minus Minus = true

-- the power of ten behind a number: its mark, its sign and its digits
pub record PowerParts : Type 0 where
  pub mark : ℕ
  pub sign : Sign
  pub digits : List ℕ

-- the parts of a number: its sign, the digits before the point, the digits behind the point where
-- there is a point, and the power of ten where there is one
pub record NumberParts : Type 0 where
  pub sign : Sign
  pub whole : List ℕ
  pub behind : Option (List ℕ)
  pub power : Option PowerParts

-- a point and the digits behind it, or neither
abbrev pub point_text : Option (List ℕ) → List ℕ
point_text None = []
point_text (Some digits) = point ∷ digits

-- the digits behind the point: none where there is no point
abbrev pub digits_behind : Option (List ℕ) → List ℕ
digits_behind None = []
digits_behind (Some digits) = digits

-- the mark, the sign and the digits of the power of ten, or nothing
abbrev pub power_text : Option PowerParts → List ℕ
power_text None = []
power_text (Some p) = p.mark ∷ (sign_text p.sign ++ p.digits)

-- the parts in a row
abbrev pub number_text : NumberParts → List ℕ
number_text p = sign_text p.sign ++ (p.whole ++ (point_text p.behind ++ power_text p.power))

-- a power of ten is marked by `e` or `E` and has one to three digits
pub record IsPower (p : PowerParts) : Type 0 where
  pub marked : (p.mark ≡ small_e) ⊎ (p.mark ≡ capital_e)
  pub digits : IsDigits 1 3 p.digits

-- the same where there is a power of ten
abbrev pub IsPowerIfAny : Option PowerParts → Type 0
IsPowerIfAny None = Unit
IsPowerIfAny (Some p) = IsPower p

-- all digits of a number, before and behind its point
abbrev pub number_digits : NumberParts → List ℕ
number_digits p = p.whole ++ digits_behind p.behind

-- a text is a number with these parts: digits before or behind the point, or both
pub record IsNumberText (text : List ℕ) (p : NumberParts) : Type 0 where
  pub joined : text ≡ number_text p
  pub whole : AllDigits p.whole
  pub behind : AllDigits (digits_behind p.behind)
  pub some : 1 ≤ length (number_digits p)
  pub power : IsPowerIfAny p.power

-- the power of ten that is written behind a number, 0 where none is
abbrev pub written_power : Option PowerParts → ℤ
written_power None = pos 0
written_power (Some p) = signed (is_minus p.sign) (digits_value 10 p.digits)

-- the power of ten of the significand: that of the last digit which is not 0
abbrev pub power_of_parts : NumberParts → ℤ
power_of_parts p =
    written_power p.power -ℤ pos (length (digits_behind p.behind))
    +ℤ pos (end_zeros (number_digits p))

-- the value of a number with these parts: 0 where all its digits are 0; TooLarge where the power of
-- ten of its significand is below -18 or above 18, or the number does not fit; and else the
-- significand times this power of ten
abbrev pub value_of_parts : NumberParts → Result Rational NumberFault
value_of_parts p = bounded (is_minus p.sign) (significand (number_digits p)) (power_of_parts p)
