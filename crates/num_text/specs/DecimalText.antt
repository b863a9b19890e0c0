-- How hours and steps are written in digits: `digits [. digits]`, with one to nine digits behind
-- the point.
use Rattle.std.specs.Prelude.{◌≡◌, ℕ, ◌*◌, ◌^◌, ◌≤◌, List, [], ◌∷◌, ◌++◌, length, Option, None, Some, pos}
use Rattle.std.specs.Str.Parse.{digits_value}
use Rattle.exact_fraction.specs.Number.{Rational, ratio}
use Rattle.num_text.specs.NumberText.{AllDigits, IsDigits, point_text, digits_behind}

-- the parts of a decimal: the digits before the point, and the digits behind it where there is a
-- point
pub record DecimalParts : Type 0 where
  pub whole : List ℕ
  pub behind : Option (List ℕ)

-- one to nine digits stand behind the point, where there is one
abbrev pub AreDecimals : Option (List ℕ) → Type 0
AreDecimals None = Unit
AreDecimals (Some digits) = IsDigits 1 9 digits

-- a text is a decimal with these parts, of which the part before the point has a digit
pub record IsDecimalText (text : List ℕ) (p : DecimalParts) : Type 0 where
  pub joined : text ≡ p.whole ++ point_text p.behind
  pub whole : AllDigits p.whole
  pub some : 1 ≤ length p.whole
  pub behind : AreDecimals p.behind

-- all digits of a decimal as one number, and the power of ten that it is divided by
abbrev pub decimal_digits : DecimalParts → ℕ
decimal_digits p = digits_value 10 (p.whole ++ digits_behind p.behind)

abbrev pub decimal_scale : DecimalParts → ℕ
decimal_scale p = 10 ^ length (digits_behind p.behind)

-- the value of a decimal
abbrev pub decimal_value : DecimalParts → Rational
decimal_value p = ratio (pos (decimal_digits p)) (decimal_scale p)

-- a decimal is at most `most`
abbrev pub IsAtMost : ℕ → DecimalParts → Type 0
IsAtMost most p = decimal_digits p ≤ most * decimal_scale p
