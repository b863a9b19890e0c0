-- Digits with or without a point.
use Rattle.std.specs.Prelude.{ℕ, ◌*◌, ◌^◌, ◌&&◌, nat_le, if◌then◌else◌, List, [], ◌∷◌, ◌++◌, length, Option, None, Some, pos}
use Rattle.std.specs.Str.Parse.{digits_value}
use Rattle.exact_fraction.specs.Number.{Rational, ratio}
use Rattle.num_text.specs.Bytes.{point}
use Rattle.num_text.specs.Fields.{◌>>=◌, leading_digits, past_digits, begins_with_digits, past, is_end}

-- one to `most` digits that the text ends with
abbrev pub last_digits : ℕ → List ℕ → Option (List ℕ)
last_digits most text =
    if begins_with_digits 1 most text && is_end (past_digits text) then Some (leading_digits text)
    else None

-- the decimals behind whole digits: a point and one to `most` digits, or none where the text ends
unfoldable pub decimals : ℕ → List ℕ → Option (List ℕ)
decimals most [] = Some []
decimals most (byte ∷ bytes) = past point (byte ∷ bytes) >>= λ behind. last_digits most behind

-- the number that digits before and behind a point write
abbrev pub pointed : List ℕ → List ℕ → Rational
pointed whole behind = ratio (pos (digits_value 10 (whole ++ behind))) (10 ^ length behind)

-- the same where it is at most `most`
abbrev pub pointed_up_to : ℕ → List ℕ → List ℕ → Option Rational
pointed_up_to most whole behind =
    if nat_le (digits_value 10 (whole ++ behind)) (most * 10 ^ length behind)
    then Some (pointed whole behind)
    else None

-- digits with or without a point and one to nine decimals, of a number that is at most `most`
unfoldable pub decimal_up_to : ℕ → List ℕ → Option Rational
decimal_up_to most text =
    if is_end (leading_digits text) then None
    else
    (decimals 9 (past_digits text) >>= λ behind. pointed_up_to most (leading_digits text) behind)
