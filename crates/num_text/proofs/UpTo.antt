-- Numbers that digits write, up to a bound.
use Rattle.std.proofs.Common.{◌≡◌, ℕ, suc, ◌+◌, ◌*◌, ◌^◌, ◌<◌, ◌≤◌, true, false, inl, inr, List, ◌++◌, length, Some, None, pos, refl, arith}
use Rattle.std.specs.Prelude.{nat_le, cond}
use Rattle.std.proofs.lemmas.Bool.Decides.{nat_tests}
use Rattle.std.proofs.lemmas.Bool.{cases_lt}
use Rattle.std.proofs.Math.Nat.{mul-le-mul_right}
use Rattle.std.specs.Str.Parse.{digits_value}
use Rattle.exact_fraction.specs.Number.{ratio}
use Rattle.num_text.specs.Pointed.{pointed_up_to}
use Rattle.num_text.proofs.Digits.{digits_value-append, ten_pos}

-- more than the bound
pub pointed-none : (most : ℕ) (whole behind : List ℕ) (scale : ℕ) → scale ≡ 10 ^ length behind → most * scale < digits_value 10 whole * scale + digits_value 10 behind → pointed_up_to most whole behind ≡ None
pointed-none most whole behind scale is over =
    let value = digits_value-append whole behind in
    let value_is : digits_value 10 (whole ++ behind) ≡ digits_value 10 whole * scale + digits_value 10 behind = rw (← is) at value in
    let test : nat_le (digits_value 10 whole * scale + digits_value 10 behind) (most * scale) ≡ false = grind (arith, nat_tests) in
    rw (value_is, ← is) (rw test refl)

pub pointed-over : (most : ℕ) (whole behind : List ℕ) → most < digits_value 10 whole → pointed_up_to most whole behind ≡ None
pointed-over most whole behind over =
    let scale : ℕ = 10 ^ length behind in
    let some : 0 < scale = ten_pos (length behind) in
    let grown : suc most * scale ≤ digits_value 10 whole * scale = mul-le-mul_right scale over in
    pointed-none most whole behind scale refl (omega arith)

-- at most the bound
pub pointed-some : (most : ℕ) (whole behind : List ℕ) (scale number : ℕ) → scale ≡ 10 ^ length behind → number ≡ digits_value 10 whole * scale + digits_value 10 behind → number ≤ most * scale → pointed_up_to most whole behind ≡ Some (ratio (pos number) scale)
pointed-some most whole behind scale number is same within =
    let value = digits_value-append whole behind in
    let value_is : digits_value 10 (whole ++ behind) ≡ digits_value 10 whole * scale + digits_value 10 behind = rw (← is) at value in
    let test : nat_le number (most * scale) ≡ true = grind (arith, nat_tests) in
    rw (value_is, ← is, ← same) (rw test refl)

-- what a reading up to a bound tells of the digits
pub up_to-none : (value most : ℕ) → cond (nat_le value most) (Some value) None ≡ None → most < value
up_to-none value most e = elim (cases_lt most value) [ inl less ↦ less | inr more ↦ let test : nat_le value most ≡ true = grind (arith, nat_tests) in absurd (cc) ]

pub up_to-some : (value most number : ℕ) → cond (nat_le value most) (Some value) None ≡ Some number → (number ≡ value) × (value ≤ most)
up_to-some value most number e = grind (arith, nat_tests)
