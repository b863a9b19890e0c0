-- The numbers that digits write.
use Rattle.std.proofs.Common.{◌≡◌, ℕ, zero, suc, ◌+◌, ◌-◌, ◌*◌, ◌^◌, ◌<◌, ◌≤◌, true, List, [], ◌∷◌, length, get_or, take, drop, ◌++◌, ◌∙◌, pow-suc, false, ap, refl, arith, length-take}
use Rattle.std.proofs.Math.Nat.{pow-le-pow_right}
use Rattle.std.proofs.lemmas.Bool.Decides.{nat_tests}
use Rattle.std.proofs.lemmas.Int.Digits.{digits_value_more, digits_value-lt}
use Rattle.std.specs.List.{list_all}
use Rattle.std.specs.Char.{is_ascii_digit, digit_value}
use Rattle.std.specs.Str.Parse.{digits_value, digits_value_after, AllDigits}
use Rattle.num_text.specs.Fields.{leading_digits, past_digits}

-- a digit's value, and its place among the bytes
pub digit_value-ascii : (byte : ℕ) → is_ascii_digit byte ≡ true → (digit_value byte ≡ byte - 48) × (48 ≤ byte) × (byte ≤ 57)
digit_value-ascii byte e = (grind (arith, nat_tests), grind (arith, nat_tests), grind (arith, nat_tests))

-- ASCII's digits are digits in base ten
pub AllDigits-ascii : (bytes : List ℕ) → list_all is_ascii_digit bytes ≡ true → AllDigits 10 bytes
AllDigits-ascii [] e = tt
AllDigits-ascii (byte ∷ bytes) e =
    let rest : list_all is_ascii_digit bytes ≡ true = grind arith in
    let here : is_ascii_digit byte ≡ true = grind arith in
    let value = digit_value-ascii byte here in
    (omega arith, AllDigits-ascii bytes rest)

-- the digit at a place
pub list_all-at : (bytes : List ℕ) (i : ℕ) → i < length bytes → list_all is_ascii_digit bytes ≡ true → is_ascii_digit (get_or bytes i 0) ≡ true
list_all-at [] i within e = absurd (omega arith)
list_all-at (byte ∷ bytes) zero within e = grind arith
list_all-at (byte ∷ bytes) (suc i) within e =
    let rest : list_all is_ascii_digit bytes ≡ true = grind arith in
    list_all-at bytes i (omega arith) rest

-- the first digits are digits
pub list_all-take : (bytes : List ℕ) (n : ℕ) → list_all is_ascii_digit bytes ≡ true → list_all is_ascii_digit (take n bytes) ≡ true
list_all-take bytes zero e = refl
list_all-take [] (suc n) e = refl
list_all-take (byte ∷ bytes) (suc n) e =
    let rest : list_all is_ascii_digit bytes ≡ true = grind arith in
    let here : is_ascii_digit byte ≡ true = grind arith in
    rw here (list_all-take bytes n rest)

-- 19 digits stay below 10^19
pub digits_value-below : (bytes : List ℕ) → length bytes ≤ 19 → list_all is_ascii_digit bytes ≡ true → digits_value 10 bytes < 10_000_000_000_000_000_000
digits_value-below bytes few e =
    let low = digits_value-lt 10 bytes (AllDigits-ascii bytes e) in
    let most : 10 ^ length bytes ≤ 10 ^ 19 = pow-le-pow_right (omega arith) few in
    omega arith

-- one more digit, and the bound of the number with it
pub record OneMore (bytes : List ℕ) (i : ℕ) : Type 0 where
  pub value : digits_value 10 (take (i + 1) bytes) ≡ digits_value 10 (take i bytes) * 10 + (get_or bytes i 0 - 48)
  pub below : digits_value 10 (take (i + 1) bytes) < 10_000_000_000_000_000_000
  pub digit : 48 ≤ get_or bytes i 0

pub digits_value-more : (bytes : List ℕ) (i : ℕ) → i < length bytes → length bytes ≤ 19 → list_all is_ascii_digit bytes ≡ true → OneMore bytes i
digits_value-more bytes i within few e =
    let digit = digit_value-ascii (get_or bytes i 0) (list_all-at bytes i within e) in
    let step = digits_value_more 10 bytes i within in
    let short : length (take (i + 1) bytes) ≤ 19 = omega (arith, length-take (i + 1) bytes) in
    let below = digits_value-below (take (i + 1) bytes) short (list_all-take bytes (i + 1) e) in
    record { value = omega arith; below = below; digit = digit.1 }

-- digits stay below the power of ten of their number
pub digits_value-power : (bytes : List ℕ) → list_all is_ascii_digit bytes ≡ true → digits_value 10 bytes < 10 ^ length bytes
digits_value-power bytes e = digits_value-lt 10 bytes (AllDigits-ascii bytes e)

-- ---- the digits that a text begins with
pub leading_digits-digits : (text : List ℕ) → list_all is_ascii_digit (leading_digits text) ≡ true
unfolding leading_digits
leading_digits-digits [] = refl
leading_digits-digits (byte ∷ bytes) =
    let rest = leading_digits-digits bytes in
    grind (arith, nat_tests)

-- one more digit
pub record OneDigit (text : List ℕ) (i : ℕ) : Type 0 where
  pub digits : take (suc i) text ++ leading_digits (drop (suc i) text) ≡ take i text ++ leading_digits (drop i text)
  pub rest : past_digits (drop (suc i) text) ≡ past_digits (drop i text)

pub one_digit : (text : List ℕ) (i : ℕ) → i < length text → is_ascii_digit (get_or text i 0) ≡ true → OneDigit text i
unfolding leading_digits past_digits
one_digit [] i within e = absurd (omega arith)
one_digit (byte ∷ bytes) zero within e = record { digits = rw e refl; rest = rw e refl }
one_digit (byte ∷ bytes) (suc i) within e =
    let more = one_digit bytes i (omega arith) e in
    record { digits = ap (λ rest. byte ∷ rest) more.digits; rest = more.rest }

-- the first byte that is no digit
pub record NoDigit (text : List ℕ) (i : ℕ) : Type 0 where
  pub digits : take i text ++ leading_digits (drop i text) ≡ take i text
  pub rest : past_digits (drop i text) ≡ drop i text

pub no_digit : (text : List ℕ) (i : ℕ) → i < length text → is_ascii_digit (get_or text i 0) ≡ false → NoDigit text i
unfolding leading_digits past_digits
no_digit [] i within e = absurd (omega arith)
no_digit (byte ∷ bytes) zero within e = record { digits = rw e refl; rest = rw e refl }
no_digit (byte ∷ bytes) (suc i) within e =
    let more = no_digit bytes i (omega arith) e in
    record { digits = ap (λ rest. byte ∷ rest) more.digits; rest = more.rest }

-- a text that has ended
pub all_digits : (text : List ℕ) (i : ℕ) → length text ≤ i → NoDigit text i
unfolding leading_digits past_digits
all_digits [] zero within = record { digits = refl; rest = refl }
all_digits [] (suc i) within = record { digits = refl; rest = refl }
all_digits (byte ∷ bytes) zero within = absurd (omega arith)
all_digits (byte ∷ bytes) (suc i) within =
    let more = all_digits bytes i (omega arith) in
    record { digits = ap (λ rest. byte ∷ rest) more.digits; rest = more.rest }

pub record WithOne (text : List ℕ) (i : ℕ) : Type 0 where
  pub digits : take (i + 1) text ++ leading_digits (drop (i + 1) text) ≡ take i text ++ leading_digits (drop i text)
  pub rest : past_digits (drop (i + 1) text) ≡ past_digits (drop i text)

pub with_one : (text : List ℕ) (i : ℕ) → i < length text → is_ascii_digit (get_or text i 0) ≡ true → WithOne text i
with_one text i within e =
    let next : i + 1 ≡ suc i = omega arith in
    let more = one_digit text i within e in
    record { digits = rw next more.digits; rest = rw next more.rest }

pub ends_at : (i n : ℕ) → i ≤ n → n ≤ i → i ≡ n
ends_at i n low high = omega arith

-- digits behind digits
value_after : (number : ℕ) (bytes : List ℕ) → digits_value_after 10 number bytes ≡ number * 10 ^ length bytes + digits_value 10 bytes
value_after number [] = omega arith
value_after number (byte ∷ bytes) =
    let long : digits_value_after 10 number (byte ∷ bytes) ≡ (number * 10 + digit_value byte) * 10 ^ length bytes + digits_value 10 bytes = value_after (number * 10 + digit_value byte) bytes in
    let short : digits_value 10 (byte ∷ bytes) ≡ (0 * 10 + digit_value byte) * 10 ^ length bytes + digits_value 10 bytes = value_after (0 * 10 + digit_value byte) bytes in
    let power : 10 ^ length (byte ∷ bytes) ≡ 10 ^ length bytes * 10 = omega (arith, pow-suc 10 (length bytes)) in
    let grown : number * 10 ^ length (byte ∷ bytes) ≡ number * (10 ^ length bytes * 10) = ap (λ x. number * x) power in
    omega arith

pub after_append : (number : ℕ) (front back : List ℕ) → digits_value_after 10 number (front ++ back) ≡ digits_value_after 10 (digits_value_after 10 number front) back
after_append number [] back = refl
after_append number (byte ∷ front) back = after_append (number * 10 + digit_value byte) front back

pub digits_value-append : (front back : List ℕ) → digits_value 10 (front ++ back) ≡ digits_value 10 front * 10 ^ length back + digits_value 10 back
digits_value-append front back = after_append 0 front back ∙ value_after (digits_value 10 front) back

-- one more digit, of any number of them
pub digits_value-next : (bytes : List ℕ) (i : ℕ) → i < length bytes → list_all is_ascii_digit bytes ≡ true → (digits_value 10 (take (i + 1) bytes) ≡ digits_value 10 (take i bytes) * 10 + (get_or bytes i 0 - 48)) × (48 ≤ get_or bytes i 0) × (get_or bytes i 0 ≤ 57)
digits_value-next bytes i within e =
    let digit = digit_value-ascii (get_or bytes i 0) (list_all-at bytes i within e) in
    let step = digits_value_more 10 bytes i within in
    (omega arith, digit.1, digit.2)

-- a power of ten is positive
pub ten_pos : (k : ℕ) → 0 < 10 ^ k
ten_pos zero = omega arith
ten_pos (suc k) = let more = ten_pos k in omega (arith, pow-suc 10 k)
