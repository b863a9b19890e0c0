-- Digits without the zeros at their end.
use Rattle.std.proofs.Common.{◌≡◌, ℕ, suc, ◌+◌, ◌-◌, ◌*◌, ◌^◌, ◌<◌, ◌≤◌, Bool, true, false, List, [], ◌∷◌, ◌++◌, length, refl, ap, ◌∙◌, arith, length-append, pow-add, le-mul_of_pos_right, cond, inl, inr, lit≤}
use Rattle.std.proofs.lemmas.Bool.{cases_lt}
use Rattle.std.specs.Prelude.{◌==◌, ◌&&◌}
use Rattle.std.proofs.Math.Nat.{mul-le-mul_right, pow-le-pow_right}
use Rattle.std.proofs.lemmas.Bool.Decides.{nat_tests}
use Rattle.std.proofs.lemmas.Int.Digits.{digits_value_push}
use Rattle.std.specs.List.{list_all}
use Rattle.std.specs.Char.{is_ascii_digit}
use Rattle.std.specs.Str.Parse.{digits_value}
use Rattle.num_text.specs.Numbers.{without_end_zeros, significand}
use Rattle.num_text.specs.internal.Significands.{IsHeld}
use Rattle.num_text.proofs.Digits.{digits_value-append, ten_pos, digit_value-ascii}

abbrev pub all_zeros : List ℕ → Bool
all_zeros digits = list_all (λ d. d == 48) digits

all_zeros-push : (digits : List ℕ) (last : ℕ) → all_zeros (digits ++ last ∷ []) ≡ (all_zeros digits && (last == 48))
all_zeros-push [] last = grind arith
all_zeros-push (digit ∷ digits) last = let more = all_zeros-push digits last in grind arith

-- one more zero at the end
pub without-zero : (digits : List ℕ) → without_end_zeros (digits ++ 48 ∷ []) ≡ without_end_zeros digits
unfolding without_end_zeros
without-zero [] = refl
without-zero (digit ∷ digits) =
    let more = without-zero digits in
    let push : all_zeros (digits ++ 48 ∷ []) ≡ all_zeros digits = grind (arith, all_zeros-push digits 48) in
    rw (push, more) refl

both : (b : Bool) (digit : ℕ) (digits : List ℕ) → cond (b && false) [] (digit ∷ digits) ≡ digit ∷ digits
both true digit digits = refl
both false digit digits = refl

-- another digit at the end
pub without-digit : (digits : List ℕ) (last : ℕ) → (last == 48) ≡ false → without_end_zeros (digits ++ last ∷ []) ≡ digits ++ last ∷ []
unfolding without_end_zeros
without-digit [] last e = rw e refl
without-digit (digit ∷ digits) last e =
    let more = without-digit digits last e in
    let push : all_zeros (digits ++ last ∷ []) ≡ false = grind (arith, all_zeros-push digits last) in
    rw (push, more) (both (digit == 48) digit (digits ++ last ∷ []))

-- zeros alone write 0
value_zeros : (digits : List ℕ) → all_zeros digits ≡ true → digits_value 10 digits ≡ 0
value_zeros [] e = refl
value_zeros (digit ∷ digits) e =
    let here : digit ≡ 48 = grind (arith, nat_tests) in
    let rest : all_zeros digits ≡ true = grind arith in
    rw here (value_zeros digits rest)

by_zeros : (digit : ℕ) (digits : List ℕ) (many : ℕ) (all : Bool) → all_zeros (digit ∷ digits) ≡ all → length (cond all [] (digit ∷ without_end_zeros digits)) + many ≡ suc (length digits) → (length (without_end_zeros digits) + many ≡ length digits → digits_value 10 digits ≡ significand digits * 10 ^ many) → digits_value 10 (digit ∷ digits) ≡ digits_value 10 (cond all [] (digit ∷ without_end_zeros digits)) * 10 ^ many
by_zeros digit digits many true e long more =
    let none = value_zeros (digit ∷ digits) e in
    omega arith
by_zeros digit digits many false e long more =
    let left : length (without_end_zeros digits) + many ≡ length digits = omega arith in
    let rest = more left in
    let value = digits_value-append (digit ∷ []) digits in
    let front = digits_value-append (digit ∷ []) (without_end_zeros digits) in
    let power = pow-add 10 (length (without_end_zeros digits)) many in
    let power_is : 10 ^ length digits ≡ 10 ^ length (without_end_zeros digits) * 10 ^ many = rw left at power in
    let grown = ap (λ x. digits_value 10 (digit ∷ []) * x) power_is in
    value ∙ (omega (arith, ap (λ x. x * 10 ^ many) front))

-- the number that digits write is their significand with the zeros behind
pub value_scaled : (digits : List ℕ) (many : ℕ) → length (without_end_zeros digits) + many ≡ length digits → digits_value 10 digits ≡ significand digits * 10 ^ many
unfolding without_end_zeros
value_scaled [] many e = omega arith
value_scaled (digit ∷ digits) many e = by_zeros digit digits many (all_zeros (digit ∷ digits)) refl e (λ h. value_scaled digits many h)

shorter : (digit : ℕ) (digits : List ℕ) (all : Bool) → length (without_end_zeros digits) ≤ length digits → length (cond all [] (digit ∷ without_end_zeros digits)) ≤ length (digit ∷ digits)
shorter digit digits true short = omega arith
shorter digit digits false short = omega arith

pub length-without : (digits : List ℕ) → length (without_end_zeros digits) ≤ length digits
unfolding without_end_zeros
length-without [] = omega arith
length-without (digit ∷ digits) = shorter digit digits (all_zeros (digit ∷ digits)) (length-without digits)

-- ---- one more digit
pub held-zero : (number many : ℕ) (front : List ℕ) → IsHeld number many front → IsHeld number (many + 1) (front ++ 48 ∷ [])
held-zero number many front known =
    let same = without-zero front in
    let long = length-append front (48 ∷ []) in
    let size = known.number in
    let count = known.zeros in
    record { number = rw same size; zeros = rw same (omega arith) }

pub large-zero : (least : ℕ) (front : List ℕ) → least ≤ significand front → least ≤ significand (front ++ 48 ∷ [])
large-zero least front large = rw (without-zero front) large

-- a digit that is no zero
pub significand-digit : (number many : ℕ) (front : List ℕ) (digit : ℕ) → 48 < digit → digit ≤ 57 → IsHeld number many front → IsHeld (number * 10 ^ (many + 1) + (digit - 48)) 0 (front ++ digit ∷ [])
significand-digit number many front digit low high known =
    let none : (digit == 48) ≡ false = grind (arith, nat_tests) in
    let same = without-digit front digit none in
    let value = value_scaled front many known.zeros in
    let size = known.number in
    let value_is : digits_value 10 front ≡ number * 10 ^ many = rw size at value in
    let push = digits_value_push 10 front digit in
    let one = digit_value-ascii digit (grind (arith, nat_tests)) in
    let power : 10 ^ (many + 1) ≡ 10 ^ many * 10 = pow-add 10 many 1 in
    let grown = ap (λ x. number * x) power in
    record { number = rw same (omega arith); zeros = rw same (omega arith) }

pub large-digit : (least : ℕ) (front : List ℕ) (digit : ℕ) → 48 < digit → digit ≤ 57 → least ≤ significand front → least ≤ significand (front ++ digit ∷ [])
large-digit least front digit low high large =
    let none : (digit == 48) ≡ false = grind (arith, nat_tests) in
    let same = without-digit front digit none in
    let push = digits_value_push 10 front digit in
    let short = length-without front in
    let value = value_scaled front (length front - length (without_end_zeros front)) (omega arith) in
    let some = ten_pos (length front - length (without_end_zeros front)) in
    let grown = le-mul_of_pos_right (significand front) some in
    rw same (omega arith)

pub large-any : (least : ℕ) (front : List ℕ) (digit : ℕ) → is_ascii_digit digit ≡ true → least ≤ significand front → least ≤ significand (front ++ digit ∷ [])
large-any least front digit e large =
    let known = digit_value-ascii digit e in
    elim (cases_lt 48 digit) [
      | inl more ↦ large-digit least front digit more known.2 large
      | inr same ↦ let is : digit ≡ 48 = omega arith in rw is (large-zero least front large)
    ]

-- the digits after a number of zeros write 10^37 or more
pub grown-large : (number many : ℕ) (front : List ℕ) (digit : ℕ) → 48 < digit → digit ≤ 57 → 10 ^ 37 ≤ number * 10 ^ (many + 1) → IsHeld number many front → 10 ^ 37 ≤ significand (front ++ digit ∷ [])
grown-large number many front digit low high large known =
    let size = (significand-digit number many front digit low high known).number in
    rw size (omega arith)

pub power-large : (number many : ℕ) → 0 < number → 37 ≤ many → 10 ^ 37 ≤ number * 10 ^ (many + 1)
power-large number many some large =
    let more : 37 ≤ many + 1 = omega arith in
    let power : 10 ^ 37 ≤ 10 ^ (many + 1) = pow-le-pow_right (lit≤ tt) more in
    let grown : 1 * 10 ^ (many + 1) ≤ number * 10 ^ (many + 1) = mul-le-mul_right (10 ^ (many + 1)) some in
    omega arith

pub power-small : (many : ℕ) → many < 37 → 10 ^ (many + 1) ≤ 10 ^ 37
power-small many few = let less : many + 1 ≤ 37 = omega arith in pow-le-pow_right (lit≤ tt) less

pub not_less : (a b : ℕ) → (a < b → ⊥) → b ≤ a
not_less a b none = elim (cases_lt a b) [ inl less ↦ absurd (none less) | inr more ↦ more ]
