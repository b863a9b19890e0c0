-- The operations on all fractions; each gives lowest terms.
use Rattle.std.specs.Prelude.{ℕ, suc, ◌+◌, ◌*◌, ◌/◌, ℤ, pos}
use Rattle.std.specs.Prelude.{negsuc, neg_ℤ, ◌+ℤ◌, ◌-ℤ◌, ◌*ℤ◌, ◌≤ℤ◌, ◌<ℤ◌}
use Rattle.std.specs.Prelude.{zero as nothing}
use Rattle.exact_fraction.specs.Number.{Rational, den, ratio, zero}

-- p + q
unfoldable pub sum_of : Rational → Rational → Rational
sum_of p q = ratio (p.num *ℤ pos (den q) +ℤ q.num *ℤ pos (den p)) (den p * den q)

-- p - q
unfoldable pub difference_of : Rational → Rational → Rational
difference_of p q = ratio (p.num *ℤ pos (den q) -ℤ q.num *ℤ pos (den p)) (den p * den q)

-- p * q
unfoldable pub product_of : Rational → Rational → Rational
product_of p q = ratio (p.num *ℤ q.num) (den p * den q)

-- (n / d) / (m / e) of whole n and m, with the sign in the numerator, and 0 where m is 0
unfoldable pub quotient_parts : ℤ → ℕ → ℤ → ℕ → Rational
quotient_parts n d (pos nothing) e = zero
quotient_parts n d (pos (suc m)) e = ratio (n *ℤ pos e) (d * suc m)
quotient_parts n d (negsuc m) e = ratio (neg_ℤ (n *ℤ pos e)) (d * suc m)

-- p / q, for a q that is not 0
unfoldable pub quotient_of : Rational → Rational → Rational
quotient_of p q = quotient_parts p.num (den p) q.num (den q)

-- -p
unfoldable pub negation_of : Rational → Rational
negation_of p = record { num = neg_ℤ p.num; below = p.below }

-- the whole number nearest to n / d, half away from 0
unfoldable pub nearest_whole : ℤ → ℕ → ℤ
nearest_whole (pos n) d = pos ((2 * n + d) / (2 * d))
nearest_whole (negsuc n) d = neg_ℤ (pos ((2 * suc n + d) / (2 * d)))

-- the nearest multiple of 10^-9, half away from 0
unfoldable pub round9_of : Rational → Rational
round9_of q = ratio (nearest_whole (q.num *ℤ pos 1000000000) (den q)) 1000000000

-- m is the whole number nearest to n / d: they are at most one half apart, and of two at one half
-- it is the one away from 0
pub record IsNearest (n : ℤ) (d : ℕ) (m : ℤ) : Type 0 where
  pub from_below : (pos 2 *ℤ n -ℤ pos d) ≤ℤ (pos (2 * d) *ℤ m)
  pub from_above : (pos (2 * d) *ℤ m) ≤ℤ (pos 2 *ℤ n +ℤ pos d)
  pub away_upward : pos 0 ≤ℤ n → (pos 2 *ℤ n -ℤ pos d) <ℤ (pos (2 * d) *ℤ m)
  pub away_downward : n <ℤ pos 0 → (pos (2 * d) *ℤ m) <ℤ (pos 2 *ℤ n +ℤ pos d)

-- the number halfway between p and q
unfoldable pub middle_of : Rational → Rational → Rational
middle_of p q = product_of (sum_of p q) (record { num = pos 1; below = 1 })

-- the value at x of the straight line through (x0, y0) and (x1, y1), in the order of its steps
abbrev pub line_at : Rational → Rational → Rational → Rational → Rational → Rational
line_at x0 y0 x1 y1 x =
    sum_of y0
    (quotient_of (product_of (difference_of y1 y0) (difference_of x x0)) (difference_of x1 x0))
