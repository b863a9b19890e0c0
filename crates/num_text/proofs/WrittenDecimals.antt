-- Written decimals.
use Rattle.std.proofs.Common.{◌≡◌, ℕ, zero, suc, ◌+◌, ◌-◌, ◌*◌, ◌/◌, ◌%◌, ◌^◌, ◌<◌, ◌≤◌, false, List, [], ◌++◌, length, refl, sym, ap, ◌∙◌, arith, pow-suc, ℤ, pos, negsuc, ◌≤ℤ◌, SFits, to_z, of_z, w64}
use Rattle.std.proofs.lemmas.Int.{ints, to_z-of_z}
use Rattle.std.proofs.lemmas.List.{append-nil}
use Rattle.std.specs.Prelude.{◌==◌, unsigned_abs, decimal}
use Rattle.std.proofs.lemmas.Bool.Decides.{nat_tests}
use Rattle.std.proofs.lemmas.Fmt.{length-decimal-le}
use Rattle.exact_fraction.specs.Number.{Rational, den, fits, IsNumber}
use Rattle.exact_fraction.proofs.PublicLaws.{lowest_terms-positive}
use Rattle.num_text.specs.Numbers.{without_end_zeros}
use Rattle.num_text.specs.Written.{places}
use Rattle.num_text.specs.Values.{written_sign, written_behind, written_units, written_size, written_value}
use Rattle.num_text.proofs.Zeros.{without-zero, without-digit}

-- digits that do not end with a zero
pub places-kept : (count left : ℕ) → (left % 10 ≡ 0 → ⊥) → without_end_zeros (places count left) ≡ places count left
unfolding places
places-kept zero left some = unfold without_end_zeros in refl
places-kept (suc count) left some =
    let last : (48 + left % 10 == 48) ≡ false = grind (arith, nat_tests) in
    without-digit (places count (left / 10)) (48 + left % 10) last

-- digits that do
pub record IsShorter (count left : ℕ) : Type 0 where
  pub some : 0 < left / 10
  pub below : left / 10 < 10 ^ (count - 1)
  pub same : without_end_zeros (places (count - 1) (left / 10)) ≡ without_end_zeros (places count left)

pub places-shorter : (count left : ℕ) → left % 10 ≡ 0 → 0 < left → left < 10 ^ count → IsShorter count left
unfolding places
places-shorter zero left none some below = absurd (omega arith)
places-shorter (suc count) left none some below =
    let power : 10 ^ suc count ≡ 10 ^ count * 10 = omega (arith, pow-suc 10 count) in
    let back : suc count - 1 ≡ count = omega arith in
    let same = without-zero (places count (left / 10)) in
    record { some = omega arith; below = rw back (omega arith); same = rw (back, none) (sym same) }

-- no decimals
pub no_decimals : (text : List ℕ) (number : ℕ) → number ≡ 0 → text ≡ text ++ written_behind (without_end_zeros (places 18 number))
unfolding places without_end_zeros
no_decimals text number none = rw none (sym (append-nil text))

-- the numbers that a program holds
pub record IsSmall (q : Rational) : Type 0 where
  pub num : unsigned_abs q.num < 2 ^ 63
  pub below : den q < 2 ^ 63
  pub some : 0 < den q

pub held-small : (q : Rational) → IsNumber q → IsSmall q
unfolding fits
held-small q held =
    let fitting = held.fitting in
    let some = lowest_terms-positive q in
    record { num = grind (arith, nat_tests); below = grind (arith, nat_tests); some = some }

pub length-decimal : (n : ℕ) → n < 2 ^ 63 → length (decimal n) ≤ 19
length-decimal n small = length-decimal-le 19 n (omega arith) (omega arith) (omega arith)

pub size_passed : (n m : ℤ) (size : ℕ) → SFits w64 n → size ≡ unsigned_abs (to_z w64 (of_z w64 n)) → n ≡ m → size ≡ unsigned_abs m
size_passed n m size fits is same = is ∙ ap unsigned_abs (to_z-of_z w64 n fits) ∙ ap unsigned_abs same

-- whole numbers
no_sign : (n : ℤ) → pos 0 ≤ℤ n → written_sign n ≡ []
no_sign (pos n) low = refl
no_sign (negsuc n) low = absurd (omega (arith, ints))

whole_size : (n : ℕ) → written_size n 1 ≡ decimal n
unfolding written_size written_units places without_end_zeros
whole_size n =
    let front : n * 10 ^ 18 / 10 ^ 18 ≡ n = omega arith in
    let back : n * 10 ^ 18 % 10 ^ 18 ≡ 0 = omega arith in
    rw (front, back) (append-nil (decimal n))

pub written_whole : (q : Rational) (n : ℕ) → pos 0 ≤ℤ q.num → pos (den q) ≡ pos 1 → n ≡ unsigned_abs q.num → decimal n ≡ written_value q
unfolding written_value
written_whole q n low one size =
    let below : den q ≡ 1 = ap unsigned_abs one in
    rw (no_sign q.num low, below, ← size) (sym (whole_size n))
