-- A significand is 0 or not divisible by 10.
use Rattle.std.proofs.Common.{◌≡◌, ℕ, suc, ◌+◌, ◌-◌, ◌*◌, ◌%◌, ◌^◌, ◌≤◌, Bool, true, false, inl, inr, ◌⊎◌, List, [], ◌∷◌, length, refl, sym, ap, ◌∙◌, arith, pow-suc}
use Rattle.std.specs.Prelude.{◌==◌}
use Rattle.std.proofs.lemmas.Bool.Decides.{nat_tests}
use Rattle.std.specs.List.{list_all}
use Rattle.std.specs.Char.{is_ascii_digit, digit_value}
use Rattle.std.specs.Str.Parse.{digits_value}
use Rattle.num_text.specs.Numbers.{without_end_zeros, significand, end_zeros}
use Rattle.num_text.proofs.Digits.{digits_value-append, digit_value-ascii}
use Rattle.num_text.proofs.Zeros.{all_zeros, value_scaled, length-without}

all-zeros : (digits : List ℕ) → all_zeros digits ≡ true → without_end_zeros digits ≡ []
unfolding without_end_zeros
all-zeros [] e = refl
all-zeros (digit ∷ digits) e = rw e refl

not-zeros : (digit : ℕ) (digits : List ℕ) → all_zeros (digit ∷ digits) ≡ false → without_end_zeros (digit ∷ digits) ≡ digit ∷ without_end_zeros digits
unfolding without_end_zeros
not-zeros digit digits e = rw e refl

-- digits that are not all zero
pub record IsNoTens (digits : List ℕ) : Type 0 where
  pub tens : significand digits % 10 ≡ 0 → ⊥
  pub some : 1 ≤ length (without_end_zeros digits)

ten_of : (power size : ℕ) (long : ℕ) → power ≡ 10 ^ suc long → (size % 10 ≡ 0 → ⊥) → (front : ℕ) → (front * power + size) % 10 ≡ 0 → ⊥
ten_of power size long is none front all =
    let step = pow-suc 10 long in
    let grown : front * power ≡ front * (10 ^ long * 10) = ap (λ x. front * x) (omega arith) in
    none (omega arith)

one_digit : (digit : ℕ) (rest : List ℕ) → is_ascii_digit digit ≡ true → rest ≡ [] → (digit == 48) ≡ false → digits_value 10 (digit ∷ rest) % 10 ≡ 0 → ⊥
one_digit digit rest here none some tens =
    let known = digit_value-ascii digit here in
    let value : digits_value 10 (digit ∷ rest) ≡ 0 * 10 + digit_value digit = rw none refl in
    let more : digit ≡ 48 → ⊥ = grind (arith, nat_tests) in
    more (omega arith)

long_digits : (digit : ℕ) (rest : List ℕ) → 1 ≤ length rest → (digits_value 10 rest % 10 ≡ 0 → ⊥) → digits_value 10 (digit ∷ rest) % 10 ≡ 0 → ⊥
long_digits digit rest long none tens =
    let value = digits_value-append (digit ∷ []) rest in
    let is : length rest ≡ suc (length rest - 1) = omega arith in
    ten_of (10 ^ length rest) (digits_value 10 rest) (length rest - 1) (ap (λ k. 10 ^ k) is) none (digits_value 10 (digit ∷ [])) (ap (λ n. n % 10) (sym value) ∙ tens)

by_rest : (digit : ℕ) (digits : List ℕ) (rest : Bool) → all_zeros digits ≡ rest → is_ascii_digit digit ≡ true → all_zeros (digit ∷ digits) ≡ false → (rest ≡ false → IsNoTens digits) → IsNoTens (digit ∷ digits)
by_rest digit digits true e here z more =
    let none = all-zeros digits e in
    let is = not-zeros digit digits z in
    let some : (digit == 48) ≡ false = grind arith in
    record { tens = rw is (one_digit digit (without_end_zeros digits) here none some); some = rw is (omega arith) }
by_rest digit digits false e here z more =
    let known = more refl in
    let is = not-zeros digit digits z in
    record { tens = rw is (long_digits digit (without_end_zeros digits) known.some known.tens); some = rw is (omega arith) }

no_tens : (digits : List ℕ) → list_all is_ascii_digit digits ≡ true → all_zeros digits ≡ false → IsNoTens digits
no_tens [] e z = absurd cc
no_tens (digit ∷ digits) e z =
    let here : is_ascii_digit digit ≡ true = grind arith in
    let rest : list_all is_ascii_digit digits ≡ true = grind arith in
    by_rest digit digits (all_zeros digits) refl here z (λ h. no_tens digits rest h)

by_all : (digits : List ℕ) (all : Bool) → all_zeros digits ≡ all → list_all is_ascii_digit digits ≡ true → (significand digits ≡ 0) ⊎ (significand digits % 10 ≡ 0 → ⊥)
by_all digits true e d = inl (ap (λ ds. digits_value 10 ds) (all-zeros digits e))
by_all digits false e d = inr (no_tens digits d e).tens

pub significand_is : (digits : List ℕ) → list_all is_ascii_digit digits ≡ true → (digits_value 10 digits ≡ significand digits * 10 ^ end_zeros digits) × ((significand digits ≡ 0) ⊎ (significand digits % 10 ≡ 0 → ⊥))
significand_is digits e =
    let short = length-without digits in
    (value_scaled digits (end_zeros digits) (omega arith), by_all digits (all_zeros digits) refl e)
