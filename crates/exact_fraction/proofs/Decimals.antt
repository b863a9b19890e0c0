-- Powers of ten as denominators: what is left of a decimal fraction without its twos and fives is
-- in lowest terms.
use Rattle.std.proofs.Common.{◌≡◌, ℕ, zero, suc, pred, ◌-◌, ◌*◌, ◌/◌, ◌%◌, ◌^◌, ◌<◌, ◌≤◌, ◌⊎◌}
use Rattle.std.proofs.Common.{inl, inr, ℤ, pos, negsuc, neg_ℤ, ◌*ℤ◌, refl, sym, ap, ◌∙◌, subst}
use Rattle.std.proofs.Common.{arith, mod-lt, mul-pos, div-add-mod', mul_comm, one-mul, mul-one}
use Rattle.std.proofs.Common.{Bool, true, false, cond, int_lt, Some, None, ap₂, ◌<ℤ◌, to_z, of_z}
use Rattle.std.proofs.Common.{SFits, mod-eq_of_lt, le-mul_of_pos_right}
use Rattle.std.specs.Prelude.{unsigned_abs, FitsSigned}
use Rattle.std.specs.Int.{IsGcd, ◌∣◌, w64, w128}
use Rattle.std.proofs.Math.Nat.{one-dvd, dvd-mul_right_of_dvd, pow-zero, pow-suc}
use Rattle.std.proofs.Math.Nat.{suc-pred-eq_of_pos, one-le-pow, pow-le-pow_right}
use Rattle.std.proofs.Math.Nat.{eq_of_mul-eq-mul_right}
use Rattle.std.proofs.lemmas.Int.{ints, to_z-of_z, to_z_pos, fits_signed_from_abs}
use Rattle.std.proofs.lemmas.Nat.{mul-pow, mul-lt}
use Rattle.std.proofs.lemmas.Nat.Gcd.{IsGcd-swap, IsGcd-from_mod, dvd_trans, dvd-zero}
use Rattle.std.proofs.lemmas.Nat.Gcd.{dvd_of_mod-eq-zero}
use Rattle.exact_fraction.specs.Number.{den, gcd, last_remainder, ratio, whole, fits}
use Rattle.exact_fraction.specs.Number.{IsLowest}
use Rattle.exact_fraction.specs.Checked.{fitting, made}
use Rattle.exact_fraction.proofs.Ring.{at, nat, by, minus, ring}
use Rattle.exact_fraction.proofs.Lowest.{IsGcd-gcd, divides_other, IsLowest-ratio, unique, size-neg}
use Rattle.exact_fraction.proofs.Ratios.{ratio_same_as}
use Rattle.exact_fraction.proofs.Held.{pair, fitting_none, made_fitting}

-- one factor less in the numerator and in the denominator
pub one_less : (p n rest most k : ℕ) → 0 < p → 0 < k → rest % p ≡ 0 → n * p ^ k ≡ rest * p ^ most
    → n * p ^ (k - 1) ≡ rest / p * p ^ most
one_less p n rest most k some left whole same =
    let split = div-add-mod' rest p in
    let power : p ^ k ≡ p ^ (k - 1) * p = ap (λ x. p ^ x) (omega arith) ∙ pow-suc p (k - 1) in
    eq_of_mul-eq-mul_right p some (n * p ^ (k - 1)) (rest / p * p ^ most)
    (omega (arith, same, ap (λ x. n * x) power, ap (λ x. x * p ^ most) split, ap (λ x. x * p ^ most) whole))

-- 2 and 5 are prime
apart_from_two : (c : ℕ) → ¬ (2 ∣ c) → IsGcd 2 c 1
unfolding gcd last_remainder
apart_from_two c h = IsGcd-swap c 2 1 (IsGcd-from_mod c 2 1 (by_rest (c % 2) refl (mod-lt c {m = 2} (omega arith))))
  where
    by_rest : (r : ℕ) → c % 2 ≡ r → r < 2 → IsGcd 2 r 1
    by_rest zero e k = absurd (h (dvd_of_mod-eq-zero 2 e))
    by_rest (suc zero) e k = IsGcd-gcd 2 1
    by_rest (suc (suc r)) e k = absurd (omega arith)

apart_from_five : (c : ℕ) → ¬ (5 ∣ c) → IsGcd 5 c 1
unfolding gcd last_remainder
apart_from_five c h = IsGcd-swap c 5 1 (IsGcd-from_mod c 5 1 (by_rest (c % 5) refl (mod-lt c {m = 5} (omega arith))))
  where
    by_rest : (r : ℕ) → c % 5 ≡ r → r < 5 → IsGcd 5 r 1
    by_rest zero e k = absurd (h (dvd_of_mod-eq-zero 5 e))
    by_rest (suc zero) e k = IsGcd-gcd 5 1
    by_rest (suc (suc zero)) e k = IsGcd-gcd 5 2
    by_rest (suc (suc (suc zero))) e k = IsGcd-gcd 5 3
    by_rest (suc (suc (suc (suc zero)))) e k = IsGcd-gcd 5 4
    by_rest (suc (suc (suc (suc (suc r))))) e k = absurd (omega arith)

power_none : (p x : ℕ) → p ^ 0 * x ≡ x
power_none p x = ap (λ y. y * x) (pow-zero p) ∙ one-mul x

-- a number that shares only 1 with p and divides a power of p times x divides x
other_factor : (p c k x : ℕ) → 0 < p → 0 < x → IsGcd p c 1 → c ∣ p ^ k * x → c ∣ x
other_factor p c zero x q some apart h = subst (λ y. c ∣ y) (power_none p x) h
other_factor p c (suc k) x q some apart h =
    let shape : p ^ suc k * x ≡ p * (p ^ k * x) = omega (arith, ap (λ y. y * x) (pow-suc p k)) in
    let positive : 0 < p ^ k = one-le-pow k p q in
    other_factor p c k x q some apart
    (divides_other p c (p ^ k * x) (mul-pos positive some) apart (subst (λ y. c ∣ y) shape h))

-- a common divisor of a number and a power of p is none of p's, where the power is 1 or p does not
-- divide the number
past_power : (p u c k x : ℕ) → 0 < p → 0 < x → ((d : ℕ) → ¬ (p ∣ d) → IsGcd p d 1)
    → (k ≡ 0) ⊎ (¬ (p ∣ u)) → c ∣ u → c ∣ p ^ k * x → c ∣ x
past_power p u c k x q some prime (inl none) a b = subst (λ y. c ∣ y) (ap (λ y. p ^ y * x) none ∙ power_none p x) b
past_power p u c k x q some prime (inr odd) a b = other_factor p c k x q some (prime c (λ h. odd (dvd_trans p h a))) b

pub coprime : (u twos fives : ℕ) → (twos ≡ 0) ⊎ (¬ (2 ∣ u)) → (fives ≡ 0) ⊎ (¬ (5 ∣ u))
    → IsGcd u (2 ^ twos * 5 ^ fives) 1
coprime u twos fives h k = (
  one-dvd u,
  one-dvd (2 ^ twos * 5 ^ fives),
  λ c a b.
      let positive : 0 < 5 ^ fives = one-le-pow fives 5 (omega arith) in
      let rest = past_power 2 u c twos (5 ^ fives) (omega arith) positive apart_from_two h a b in
      past_power 5 u c fives 1 (omega arith) (omega arith) apart_from_five k a (subst (λ y. c ∣ y) (sym (mul-one (5 ^ fives))) rest),
)

-- ---- the number
-- the parts of a decimal fraction: its size without twos and fives, and what is left of both
pub record DecimalParts (digits : ℤ) (places half twos size fives : ℕ) : Type 0 where
  pub half_is : unsigned_abs digits * 2 ^ twos ≡ half * 2 ^ places
  pub odd : (twos ≡ 0) ⊎ (¬ (2 ∣ half))
  pub size_is : half * 5 ^ fives ≡ size * 5 ^ places
  pub fifth : (fives ≡ 0) ⊎ (¬ (5 ∣ size))

-- the size has no more twos than its half
size_odd : (half size fives places : ℕ) → half * 5 ^ fives ≡ size * 5 ^ places → ¬ (2 ∣ half)
    → ¬ (2 ∣ size)
unfolding gcd last_remainder
size_odd zero size fives places same odd h = absurd (odd (dvd-zero 2))
size_odd (suc half) size fives places same odd h =
    let whole : 2 ∣ 5 ^ fives * suc half = subst (λ x. 2 ∣ x) (sym same ∙ mul_comm (suc half) (5 ^ fives)) (dvd-mul_right_of_dvd 2 h (5 ^ places)) in
    odd (other_factor 5 2 fives (suc half) (omega arith) (omega arith) (IsGcd-gcd 5 2) whole)

twos_apart : (digits : ℤ) (places half twos size fives : ℕ)
    → DecimalParts digits places half twos size fives → (twos ≡ 0) ⊎ (¬ (2 ∣ size))
twos_apart digits places half twos size fives p = by_odd p.odd
  where
    by_odd : (twos ≡ 0) ⊎ (¬ (2 ∣ half)) → (twos ≡ 0) ⊎ (¬ (2 ∣ size))
    by_odd (inl none) = inl none
    by_odd (inr odd) = inr (size_odd half size fives places p.size_is odd)

-- the two quotients, crosswise
crosswise : (digits : ℤ) (places half twos size fives : ℕ)
    → DecimalParts digits places half twos size fives
    → unsigned_abs digits * (2 ^ twos * 5 ^ fives) ≡ size * 10 ^ places
crosswise digits places half twos size fives p =
    let ten : 10 ^ places ≡ 2 ^ places * 5 ^ places = mul-pow 2 5 places in
    let left = ap (λ x. x * 5 ^ fives) p.half_is in
    let right = ap (λ x. x * 2 ^ places) p.size_is in
    omega (arith, left, right, ap (λ x. size * x) ten)

-- a size with the sign of the digits
abbrev pub with_sign : Bool → ℕ → ℤ
with_sign true size = neg_ℤ (pos size)
with_sign false size = pos size

not_negative : (n : ℕ) → int_lt (pos n) (pos 0) ≡ false
not_negative n = sym (omega (arith, ints))

signed_same : (digits : ℤ) (size d e : ℕ) → unsigned_abs digits * d ≡ size * e
    → digits *ℤ pos d ≡ with_sign (int_lt digits (pos 0)) size *ℤ pos e
signed_same (pos n) size d e h = rw (not_negative n) (ap pos h)
signed_same (negsuc n) size d e h = ring (by (at (negsuc n)) (nat d)) (by (minus (nat size)) (nat e)) (omega (arith, h))

size-with_sign : (negative : Bool) (size : ℕ) → unsigned_abs (with_sign negative size) ≡ size
size-with_sign true size = size-neg size
size-with_sign false size = refl

-- the fraction of a numerator and a positive denominator that share only 1
lowest_pair : (m : ℤ) (d : ℕ) → 0 < d → IsGcd (unsigned_abs m) d 1 → IsLowest (pair m (pred d))
unfolding den
lowest_pair m d some h = record { coprime = subst (λ x. IsGcd (unsigned_abs m) x 1) (sym (suc-pred-eq_of_pos some)) h }

ratio_pair : (n m : ℤ) (d e : ℕ) → 0 < d → 0 < e → n *ℤ pos e ≡ m *ℤ pos d
    → IsGcd (unsigned_abs m) e 1 → ratio n d ≡ pair m (pred e)
unfolding den
ratio_pair n m d e some positive same apart =
    let q = pair m (pred e) in
    let is : n *ℤ pos (suc (pred e)) ≡ m *ℤ pos d = ap (λ x. n *ℤ pos x) (suc-pred-eq_of_pos positive) ∙ same in
    unique (ratio n d) q (IsLowest-ratio n d some) (lowest_pair m e positive apart) (ratio_same_as n d q some is)

pub remains_pos : (twos fives : ℕ) → 0 < 2 ^ twos * 5 ^ fives
remains_pos twos fives = mul-pos (one-le-pow twos 2 (omega arith)) (one-le-pow fives 5 (omega arith))

pub decimal_ratio : (digits : ℤ) (places half twos size fives : ℕ)
    → DecimalParts digits places half twos size fives
    → ratio digits (10 ^ places) ≡ pair (with_sign (int_lt digits (pos 0)) size) (pred (2 ^ twos * 5 ^ fives))
decimal_ratio digits places half twos size fives p =
    let m = with_sign (int_lt digits (pos 0)) size in
    let e = 2 ^ twos * 5 ^ fives in
    let same = signed_same digits size e (10 ^ places) (crosswise digits places half twos size fives p) in
    let apart = coprime size twos fives (twos_apart digits places half twos size fives p) p.fifth in
    ratio_pair digits m (10 ^ places) e (one-le-pow places 10 (omega arith)) (remains_pos twos fives) same
    (subst (λ x. IsGcd x e 1) (sym (size-with_sign (int_lt digits (pos 0)) size)) apart)

-- ---- what the calls pass
positive : (n : ℕ) → 0 < n → pos 0 <ℤ pos n
positive n h = omega (arith, ints)

pub few_fives : (fives : ℕ) → fives ≤ 27 → 5 ^ fives < 2 ^ 63
few_fives fives h =
    let power : 5 ^ fives ≤ 5 ^ 27 = pow-le-pow_right (omega arith) h in
    omega (arith, power)

few_twos : (twos : ℕ) → twos ≤ 62 → 2 ^ twos < 2 ^ 63
few_twos twos h =
    let power : 2 ^ twos ≤ 2 ^ 62 = pow-le-pow_right (omega arith) h in
    omega (arith, power)

-- the two powers at 128 bits
pub powers_passed : (twos fives power : ℕ) → twos ≤ 62 → fives ≤ 27 → power ≡ 5 ^ fives
    → to_z w128 ((1 * 2 ^ twos) % 2 ^ 128) *ℤ to_z w128 power ≡ pos (2 ^ twos * 5 ^ fives)
powers_passed twos fives power h k e =
    let a = few_twos twos h in
    let b = few_fives fives k in
    let shifted : (1 * 2 ^ twos) % 2 ^ 128 ≡ 2 ^ twos = ap (λ x. x % 2 ^ 128) (one-mul (2 ^ twos)) ∙ mod-eq_of_lt (omega (arith, a)) in
    let left = ap (λ x. to_z w128 x) shifted ∙ to_z_pos w128 (2 ^ twos) (omega (arith, a)) in
    let right = ap (λ x. to_z w128 x) e ∙ to_z_pos w128 (5 ^ fives) (omega (arith, b)) in
    ap₂ (λ x y. x *ℤ y) left right

pub powers_fit : (twos fives : ℕ) → twos ≤ 62 → fives ≤ 27
    → FitsSigned w128 (pos (2 ^ twos * 5 ^ fives))
powers_fit twos fives h k =
    fits_signed_from_abs w128 (pos (2 ^ twos * 5 ^ fives))
    (omega (arith, mul-lt (2 ^ twos) (5 ^ fives) (2 ^ 63) (2 ^ 63) (few_twos twos h) (few_fives fives k)))

passed_number : (digits n d : ℤ) (places half twos size fives : ℕ)
    → DecimalParts digits places half twos size fives
    → n ≡ cond (int_lt digits (pos 0)) (neg_ℤ (pos size)) (pos size)
    → d ≡ pos (2 ^ twos * 5 ^ fives)
    → ratio digits (10 ^ places) ≡ pair n (pred (unsigned_abs d))
passed_number digits n d places half twos size fives p e f =
    decimal_ratio digits places half twos size fives p
    ∙ ap₂ (λ m x. pair m (pred (unsigned_abs x))) (sign_is (int_lt digits (pos 0)) size ∙ sym e) (sym f)
  where
    sign_is : (negative : Bool) (k : ℕ)
        → with_sign negative k ≡ cond negative (neg_ℤ (pos k)) (pos k)
    sign_is true k = refl
    sign_is false k = refl

made_decimal : (digits : ℤ) (places : ℕ)
    → fitting (ratio digits (10 ^ places)) ≡ made digits (pos (10 ^ places))
made_decimal digits places = sym (made_fitting digits (pos (10 ^ places)) (positive (10 ^ places) (one-le-pow places 10 (omega arith))))

pub decimal_made : (digits n d : ℤ) (places half twos size fives : ℕ)
    → DecimalParts digits places half twos size fives
    → n ≡ cond (int_lt digits (pos 0)) (neg_ℤ (pos size)) (pos size)
    → d ≡ pos (2 ^ twos * 5 ^ fives)
    → (pos 0 <ℤ d) × IsLowest (pair n (pred (unsigned_abs d)))
    × (fitting (pair n (pred (unsigned_abs d))) ≡ made digits (pos (10 ^ places)))
decimal_made digits n d places half twos size fives p e f =
    let is = passed_number digits n d places half twos size fives p e f in (
      subst (λ x. pos 0 <ℤ x) (sym f) (positive (2 ^ twos * 5 ^ fives) (remains_pos twos fives)),
      subst IsLowest is (IsLowest-ratio digits (10 ^ places) (one-le-pow places 10 (omega arith))),
      ap fitting (sym is) ∙ made_decimal digits places,
    )

pub decimal_large : (digits : ℤ) (places half twos size fives : ℕ)
    → DecimalParts digits places half twos size fives
    → (62 < twos) ⊎ (27 < fives) → None ≡ made digits (pos (10 ^ places))
unfolding den
decimal_large digits places half twos size fives p h =
    let q = pair (with_sign (int_lt digits (pos 0)) size) (pred (2 ^ twos * 5 ^ fives)) in
    let den_is : den q ≡ 2 ^ twos * 5 ^ fives = suc-pred-eq_of_pos (remains_pos twos fives) in
    let large = many twos fives h in
    fitting_none q (inr (rw den_is large))
    ∙ ap fitting (sym (decimal_ratio digits places half twos size fives p))
    ∙ made_decimal digits places
  where
    many : (t f : ℕ) → (62 < t) ⊎ (27 < f) → 2 ^ 63 ≤ 2 ^ t * 5 ^ f
    many t f (inl k) =
        let power : 2 ^ 63 ≤ 2 ^ t = pow-le-pow_right (omega arith) k in
        omega (arith, power, le-mul_of_pos_right (2 ^ t) (one-le-pow f 5 (omega arith)))
    many t f (inr k) =
        let power : 5 ^ 28 ≤ 5 ^ f = pow-le-pow_right (omega arith) k in
        omega (arith, power, le-mul_of_pos_right (5 ^ f) (one-le-pow t 2 (omega arith)))

pub decimal_zero : (digits : ℤ) (places : ℕ) → digits ≡ pos 0
    → Some (whole (pos 0)) ≡ made digits (pos (10 ^ places))
unfolding whole fitting fits den
decimal_zero digits places e =
    let power : 0 < 10 ^ places = one-le-pow places 10 (omega arith) in
    let is = ratio_pair (pos 0) (pos 0) (10 ^ places) 1 power (omega arith) (ring (by (nat 0) (nat 1)) (by (nat 0) (nat (10 ^ places))) (omega arith)) (one-dvd 0, one-dvd 1, λ c a b. b) in
    ap fitting (sym is) ∙ made_decimal (pos 0) places ∙ ap (λ n. made n (pos (10 ^ places))) (sym e)

-- the parts, and the number, as the calls pass them
pub decimal_parts : (digits : ℤ) (u places half twos size fives : ℕ) → SFits w64 digits
    → u ≡ unsigned_abs (to_z w64 (of_z w64 digits)) → u * 2 ^ twos ≡ half * 2 ^ places
    → (twos ≡ 0) ⊎ (¬ (2 ∣ half))
    → half * 5 ^ fives ≡ size * 5 ^ places → (fives ≡ 0) ⊎ (¬ (5 ∣ size))
    → DecimalParts digits places half twos size fives
decimal_parts digits u places half twos size fives f e h odd k fifth =
    let whole : u ≡ unsigned_abs digits = e ∙ ap unsigned_abs (to_z-of_z w64 digits f) in
    record { half_is = ap (λ x. x * 2 ^ twos) (sym whole) ∙ h; odd = odd; size_is = k; fifth = fifth }

pub record Passed (digits : ℤ) (places : ℕ) (n d : ℤ) : Type 0 where
  pub positive : pos 0 <ℤ d
  pub lowest : IsLowest (pair n (pred (unsigned_abs d)))
  pub made_is : fitting (pair n (pred (unsigned_abs d))) ≡ made digits (pos (10 ^ places))

pub decimal_passed : (digits n d : ℤ) (places half twos size fives : ℕ) → SFits w64 digits
    → SFits w128 n → SFits w128 d
    → DecimalParts digits places half twos size fives
    → n ≡ cond (int_lt (to_z w64 (of_z w64 digits)) (pos 0)) (neg_ℤ (pos size)) (pos size)
    → d ≡ pos (2 ^ twos * 5 ^ fives)
    → Passed digits places (to_z w128 (of_z w128 n)) (to_z w128 (of_z w128 d))
decimal_passed digits n d places half twos size fives f g h p e k =
    let negative = ap (λ x. cond (int_lt x (pos 0)) (neg_ℤ (pos size)) (pos size)) (to_z-of_z w64 digits f) in
    let num = to_z-of_z w128 n g ∙ e ∙ negative in
    let r = decimal_made digits (to_z w128 (of_z w128 n)) (to_z w128 (of_z w128 d)) places half twos size fives p num (to_z-of_z w128 d h ∙ k) in
    record { positive = r.0; lowest = r.1; made_is = r.2 }
