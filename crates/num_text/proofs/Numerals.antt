-- Counts: what is written, and what is read.
use Rattle.std.proofs.Common.{◌≡◌, ℕ, ◌^◌, ◌<◌, ◌≤◌, Bool, true, false, List, [], ◌∷◌, ◌++◌, length, get_or, Option, Some, None, refl, sym, ap, ◌∙◌, arith, inl, inr}
use Rattle.std.specs.Prelude.{nat_lt, nat_le, cond, decimal, option_and_then}
use Rattle.std.proofs.lemmas.List.{append-nil}
use Rattle.std.proofs.lemmas.Bool.{cases_lt}
use Rattle.std.proofs.lemmas.Bool.Decides.{nat_tests}
use Rattle.std.proofs.lemmas.Fmt.{decimal_is_IsNumeral, decimal_digit, first_decimal, length-decimal-le, decimal-digits_value}
use Rattle.std.proofs.lemmas.Str.Parse.{numerals_by_value, tells_digits}
use Rattle.std.specs.List.{list_all}
use Rattle.std.specs.Char.{is_ascii_digit}
use Rattle.std.specs.Str.Parse.{digits_value, AllDigits}
use Rattle.num_text.specs.Fields.{leading_digits, past_digits, is_end}
use Rattle.num_text.specs.Pointed.{last_digits}
use Rattle.num_text.specs.Counts.{is_padded, count_in, count_of}
use Rattle.num_text.proofs.Digits.{AllDigits-ascii, leading_digits-digits}
use Rattle.num_text.proofs.Cuts.{cut}
use Rattle.num_text.proofs.ValueTrips.{all_ascii}

-- ---- what is written
-- no zero first
first_some : (digits : List ℕ) → 48 < get_or digits 0 0 → is_padded digits ≡ false
first_some [] first = refl
first_some (digit ∷ digits) first = grind (arith, nat_tests)

not_padded : (n : ℕ) → n < 2 ^ 64 → is_padded (decimal n) ≡ false
not_padded n small = elim (cases_lt 9 n) [
  | inl long ↦ first_some (decimal n) (first_decimal n (omega arith) small)
  | inr short ↦ rw (decimal_digit n (omega arith)) (grind arith)
]

last_digits-cut : (most : ℕ) (digits : List ℕ) → leading_digits digits ≡ digits → past_digits digits ≡ [] → 1 ≤ length digits → length digits ≤ most → last_digits most digits ≡ Some digits
last_digits-cut most digits front back some few =
    let least : nat_le 1 (length digits) ≡ true = grind (arith, nat_tests) in
    let high : nat_le (length digits) most ≡ true = grind (arith, nat_tests) in
    rw (front, back, least, high) refl

last_digits-decimal : (n : ℕ) → n < 2 ^ 64 → last_digits 20 (decimal n) ≡ Some (decimal n)
last_digits-decimal n small =
    let known = decimal_is_IsNumeral n small in
    let parts = cut (decimal n) [] (all_ascii (decimal n) known.0.1) refl in
    last_digits-cut 20 (decimal n) (rw (append-nil (decimal n)) at parts.front) (rw (append-nil (decimal n)) at parts.back) known.0.0 (length-decimal-le 20 n (omega arith) (omega arith) small)

pub count_of-decimal : (n : ℕ) → n < 2 ^ 64 → count_of (decimal n) ≡ Some n
unfolding count_of
count_of-decimal n small =
    let known = decimal_is_IsNumeral n small in
    let below : nat_lt n (2 ^ 64) ≡ true = grind (arith, nat_tests) in
    rw (last_digits-decimal n small) (rw (not_padded n small, known.1) (rw below refl))

-- ---- what is read
by_byte : (byte : ℕ) (bytes : List ℕ) (is : Bool) → leading_digits bytes ++ past_digits bytes ≡ bytes → cond is (byte ∷ leading_digits bytes) [] ++ cond is (past_digits bytes) (byte ∷ bytes) ≡ byte ∷ bytes
by_byte byte bytes true e = ap (λ rest. byte ∷ rest) e
by_byte byte bytes false e = refl

-- a text is the digits that it begins with, and what stands behind them
pub front_back : (text : List ℕ) → leading_digits text ++ past_digits text ≡ text
unfolding leading_digits past_digits
front_back [] = refl
front_back (byte ∷ bytes) = by_byte byte bytes (is_ascii_digit byte) (front_back bytes)

pub ended : (rest : List ℕ) → is_end rest ≡ true → rest ≡ []
ended [] e = refl
ended (byte ∷ bytes) e = absurd cc

-- a text that is digits
pub record IsDigits (text digits : List ℕ) : Type 0 where
  pub same : text ≡ digits
  pub ascii : list_all is_ascii_digit digits ≡ true
  pub some : 0 < length digits

last_digits-digits : (most : ℕ) (text digits : List ℕ) → last_digits most text ≡ Some digits → IsDigits text digits
last_digits-digits most text digits e =
    let known : (leading_digits text ≡ digits) × (is_end (past_digits text) ≡ true) × (1 ≤ length (leading_digits text)) = grind (arith, nat_tests) in
    let front = rw (ended (past_digits text) known.1, append-nil (leading_digits text)) at (front_back text) in
    record { same = sym front ∙ known.0; ascii = rw known.0 at (leading_digits-digits text); some = rw known.0 at known.2 }

-- digits that write a count
pub record IsCounted (digits : List ℕ) (n : ℕ) : Type 0 where
  pub first : is_padded digits ≡ false
  pub value : digits_value 10 digits ≡ n
  pub below : digits_value 10 digits < 2 ^ 64

counted : (digits : List ℕ) (n : ℕ) → cond (is_padded digits) None (count_in digits) ≡ Some n → IsCounted digits n
counted digits n e =
    let known : (is_padded digits ≡ false) × (digits_value 10 digits ≡ n) × (digits_value 10 digits < 2 ^ 64) = grind (arith, nat_tests) in
    record { first = known.0; value = known.1; below = known.2 }

no_zero : (digits : List ℕ) → is_padded digits ≡ false → 0 < length digits → get_or digits 0 0 ≡ 48 → length digits ≡ 1
no_zero [] e some zero_first = absurd (omega arith)
no_zero (digit ∷ digits) e some zero_first = grind (arith, nat_tests)

pub record IsCount (text : List ℕ) (n : ℕ) : Type 0 where
  pub written : text ≡ decimal n
  pub below : n < 2 ^ 64

as_count : (text digits : List ℕ) (n : ℕ) → IsDigits text digits → IsCounted digits n → IsCount text n
as_count text digits n read known =
    let own = numerals_by_value (AllDigits 10) tells_digits in
    let back = decimal-digits_value own digits (AllDigits-ascii digits read.ascii) read.some (no_zero digits known.first read.some) known.below in
    record { written = read.same ∙ sym back ∙ ap decimal known.value; below = rw known.value at known.below }

by_digits : (text : List ℕ) (found : Option (List ℕ)) (n : ℕ) → ((digits : List ℕ) → found ≡ Some digits → IsDigits text digits) → option_and_then (λ digits. cond (is_padded digits) None (count_in digits)) found ≡ Some n → IsCount text n
by_digits text None n read e = absurd cc
by_digits text (Some digits) n read e = as_count text digits n (read digits refl) (counted digits n e)

is_count : (text : List ℕ) (n : ℕ) → count_of text ≡ Some n → IsCount text n
unfolding count_of
is_count text n e = by_digits text (last_digits 20 text) n (last_digits-digits 20 text) e

pub count-written : (text : List ℕ) (n : ℕ) → count_of text ≡ Some n → text ≡ decimal n
count-written text n e = (is_count text n e).written

pub count-below : (text : List ℕ) (n : ℕ) → count_of text ≡ Some n → n < 2 ^ 64
count-below text n e = (is_count text n e).below
