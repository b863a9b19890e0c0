-- Greatest common divisors, and ratios in lowest terms.
use Rattle.std.proofs.Common.{◌≡◌, ℕ, zero, suc, ◌+◌, ◌*◌, ◌/◌, ◌%◌, ◌<◌, ◌≤◌, ℤ, pos, negsuc, ◌*ℤ◌, neg_ℤ, refl, sym, ap, ◌∙◌, subst, arith, mod-lt, zero-mul, one-mul, mod-eq_of_lt, div-add-mod', mul-lt-mul_of_pos_right, mul-one, ap₂, div-le_self}
use Rattle.std.specs.Prelude.{unsigned_abs, int_div}
use Rattle.std.proofs.Math.Nat.{dvd-mul_right, dvd-mul_left, one-dvd, pos_of_dvd_of_pos, div-mul_cancel, suc-pred-eq_of_pos, mul-dvd-mul_right, dvd_of_mul-dvd-mul_right, eq_of_mul-eq-mul_right, mul-add-mod_self_right}
use Rattle.std.proofs.lemmas.Nat.Gcd.{dvd_antisymm, IsGcd-from_zero, IsGcd-from_mod, same_from_IsGcd}
use Rattle.std.proofs.lemmas.Int.{unsigned_abs-mul}
use Rattle.std.specs.Int.{IsGcd, ◌∣◌}
use Rattle.exact_fraction.specs.Number.{Rational, den, last_remainder, gcd, cancelled, ratio, IsLowest}
use Rattle.exact_fraction.specs.Order.{◌=ℚ◌}
use Rattle.exact_fraction.proofs.Ring.{at, nat, by, minus, ring, parts_same}

-- `%` of two multiples of c
mod_scaled : (a b c : ℕ) → 0 < b → 0 < c → (a * c) % (b * c) ≡ (a % b) * c
mod_scaled a b c p q =
    let split : a * c ≡ (a / b) * (b * c) + (a % b) * c = omega (arith, ap (λ x. x * c) (div-add-mod' a b)) in
    ap (λ x. x % (b * c)) split
    ∙ mul-add-mod_self_right (a / b) (b * c) ((a % b) * c)
    ∙ mod-eq_of_lt (mul-lt-mul_of_pos_right (mod-lt a p) q)

-- Euclid's remainders of two numbers, multiplied, give the greatest common divisor of their
-- multiples
IsGcd-scaled : (turns a b c : ℕ) → 0 < c → b < turns → IsGcd (a * c) (b * c) (last_remainder turns a b * c)
unfolding last_remainder
IsGcd-scaled zero a b c p h = absurd (omega arith)
IsGcd-scaled (suc turns) a zero c p h = IsGcd-from_zero (a * c) (0 * c) (zero-mul c)
IsGcd-scaled (suc turns) a (suc b) c p h =
    let more = IsGcd-scaled turns (suc b) (a % suc b) c p (omega (arith, mod-lt a {m = suc b} (omega arith))) in
    IsGcd-from_mod (a * c) (suc b * c) _ (rw (mod_scaled a (suc b) c (omega arith) p) more)

-- the greatest common divisor is one
pub IsGcd-gcd : (a b : ℕ) → IsGcd a b (gcd a b)
unfolding gcd
IsGcd-gcd a b = simp mul-one at (IsGcd-scaled (suc b) a b 1 (omega arith) (omega arith))

-- a number that divides a product and shares only 1 with a factor divides the other
pub divides_other : (a d e : ℕ) → 0 < e → IsGcd a d 1 → d ∣ a * e → d ∣ e
unfolding gcd
divides_other a d e p h k =
    let one : last_remainder (suc d) a d ≡ 1 = same_from_IsGcd a d _ 1 (IsGcd-gcd a d) h in
    let both = IsGcd-scaled (suc d) a d e p (omega arith) in
    simp (one, one-mul) at (both.2 d k (dvd-mul_right d e))

-- two fractions in lowest terms that are the same number have the same denominator
pub same_denominator : (a d b e : ℕ) → 0 < d → 0 < e → IsGcd a d 1 → IsGcd b e 1 → a * e ≡ b * d → d ≡ e
same_denominator a d b e p q g h s =
    dvd_antisymm
    (divides_other a d e q g (rw s (dvd-mul_left d b)))
    (divides_other b e d p h (rw (← s) (dvd-mul_left e a)))

-- ---- ratios
pub size-neg : (k : ℕ) → unsigned_abs (neg_ℤ (pos k)) ≡ k
size-neg zero = refl
size-neg (suc k) = refl

pub size-int_div : (n : ℤ) (g : ℕ) → unsigned_abs (int_div n (pos g)) ≡ unsigned_abs n / g
size-int_div (pos n) g = refl
size-int_div (negsuc n) g = size-neg (suc n / g)

-- a whole number is its quotient by a divisor, times the divisor
pub int_div-back : (n : ℤ) (g : ℕ) → g ∣ unsigned_abs n → int_div n (pos g) *ℤ pos g ≡ n
int_div-back (pos n) g h = ap pos (div-mul_cancel g h)
int_div-back (negsuc n) g h =
    let back : suc n / g * g ≡ suc n = div-mul_cancel g h in
    ring (by (minus (nat (suc n / g))) (nat g)) (at (negsuc n)) (omega arith)

coprime_left : (a b g : ℕ) → 0 < g → IsGcd a b g → IsGcd (a / g) (b / g) 1
coprime_left a b g p h = (
  one-dvd (a / g),
  one-dvd (b / g),
  λ k u v.
      let au = rw (div-mul_cancel g h.0) at (mul-dvd-mul_right k u g) in
      let bv = rw (div-mul_cancel g h.1) at (mul-dvd-mul_right k v g) in
      dvd_of_mul-dvd-mul_right {k = g} k {n = 1} p (rw (one-mul g) (h.2 (k * g) au bv)),
)

-- what is left of a denominator is positive
quotient_pos : (d g : ℕ) → 0 < d → 0 < g → g ∣ d → 0 < d / g
quotient_pos d g p q h = pos_of_dvd_of_pos {m = d / g} {n = d} (subst (λ x. (d / g) ∣ x) (div-mul_cancel g h) (dvd-mul_right (d / g) g)) p

pub den-cancelled : (n : ℤ) (d g : ℕ) → 0 < d → 0 < g → g ∣ d → den (cancelled g n d) ≡ d / g
unfolding cancelled den
den-cancelled n d zero p q h = absurd (omega arith)
den-cancelled n d (suc g) p q h = suc-pred-eq_of_pos (quotient_pos d (suc g) p q h)

pub num-cancelled : (n : ℤ) (d g : ℕ) → 0 < g → (cancelled g n d).num ≡ int_div n (pos g)
unfolding cancelled
num-cancelled n d zero q = absurd (omega arith)
num-cancelled n d (suc g) q = refl

pub gcd_pos : (a d : ℕ) → 0 < d → 0 < gcd a d
gcd_pos a d p = pos_of_dvd_of_pos (IsGcd-gcd a d).1 p

pub IsLowest-ratio : (n : ℤ) (d : ℕ) → 0 < d → IsLowest (ratio n d)
unfolding ratio gcd den
IsLowest-ratio n d p =
    let g = gcd (unsigned_abs n) d in
    let q = gcd_pos (unsigned_abs n) d p in
    let h = IsGcd-gcd (unsigned_abs n) d in
    record { coprime = rw (num-cancelled n d g q, den-cancelled n d g p q h.1, size-int_div n g) (coprime_left (unsigned_abs n) d g q h) }

-- a ratio has no greater numerator and denominator than it is given
pub ratio_no_greater : (n : ℤ) (d : ℕ) → 0 < d → (unsigned_abs (ratio n d).num ≤ unsigned_abs n) × (den (ratio n d) ≤ d)
unfolding ratio
ratio_no_greater n d p =
    let g = gcd (unsigned_abs n) d in
    let q = gcd_pos (unsigned_abs n) d p in
    let num = div-le_self (unsigned_abs n) g in
    let below = div-le_self d g in
    (rw (num-cancelled n d g q, size-int_div n g) num, rw (den-cancelled n d g p q (IsGcd-gcd (unsigned_abs n) d).1) below)

-- and its denominator divides the one that it is given
pub ratio_divides : (n : ℤ) (d : ℕ) → 0 < d → den (ratio n d) ∣ d
unfolding ratio
ratio_divides n d p =
    let g = gcd (unsigned_abs n) d in
    let q = gcd_pos (unsigned_abs n) d p in
    let h = (IsGcd-gcd (unsigned_abs n) d).1 in
    rw (den-cancelled n d g p q h) (subst (λ x. (d / g) ∣ x) (div-mul_cancel g h) (dvd-mul_right (d / g) g))

value_of_parts : (q n : ℤ) (k g d : ℕ) → q *ℤ pos g ≡ n → k * g ≡ d → q *ℤ pos d ≡ n *ℤ pos k
value_of_parts q n k g d e f =
    ap (λ x. q *ℤ pos x) (sym f)
    ∙ ring (by (at q) (nat (k * g))) (by (by (at q) (nat g)) (nat k)) (omega arith)
    ∙ ap (λ x. x *ℤ pos k) e

pub ratio_value : (n : ℤ) (d : ℕ) → 0 < d → (ratio n d).num *ℤ pos d ≡ n *ℤ pos (den (ratio n d))
unfolding ratio gcd den
ratio_value n d p =
    let g = gcd (unsigned_abs n) d in
    let q = gcd_pos (unsigned_abs n) d p in
    let h = IsGcd-gcd (unsigned_abs n) d in
    rw (num-cancelled n d g q, den-cancelled n d g p q h.1)
    (value_of_parts (int_div n (pos g)) n (d / g) g d (int_div-back n g h.0) (div-mul_cancel g h.1))

pub den_pos : (q : Rational) → 0 < den q
unfolding den
den_pos q = omega arith

pub cancel_right : (a b : ℤ) (d : ℕ) → 0 < d → a *ℤ pos d ≡ b *ℤ pos d → a ≡ b
cancel_right a b d p h =
    ring (at a) (at b) (eq_of_mul-eq-mul_right d p _ _ (omega (arith, parts_same (by (at a) (nat d)) (by (at b) (nat d)) h)))

same_below : (p q : Rational) → den p ≡ den q → p.below ≡ q.below
unfolding den
same_below p q e = omega (arith, e)

abbrev pair : ℤ → ℕ → Rational
pair n b = record { num = n; below = b }

-- in lowest terms a number has one numerator and one denominator
pub unique : (p q : Rational) → IsLowest p → IsLowest q → p =ℚ q → p ≡ q
unique p q g h s =
    let sizes : unsigned_abs p.num * den q ≡ unsigned_abs q.num * den p =
    sym (unsigned_abs-mul p.num (pos (den q))) ∙ ap unsigned_abs s.eq ∙ unsigned_abs-mul q.num (pos (den p)) in
    let dens = same_denominator (unsigned_abs p.num) (den p) (unsigned_abs q.num) (den q) (den_pos p) (den_pos q) g.coprime h.coprime sizes in
    let nums = cancel_right p.num q.num (den q) (den_pos q) (s.eq ∙ ap (λ d. q.num *ℤ pos d) dens) in
    ap₂ pair nums (same_below p q dens)

pub ratio_itself : (q : Rational) → IsLowest q → ratio q.num (den q) ≡ q
ratio_itself q h =
    unique (ratio q.num (den q)) q (IsLowest-ratio q.num (den q) (den_pos q)) h (record { eq = ratio_value q.num (den q) (den_pos q) })
