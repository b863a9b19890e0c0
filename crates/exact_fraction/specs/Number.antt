-- Numbers: fractions of whole numbers, their lowest terms, and the bound of those that a program
-- holds.
use Rattle.std.specs.Prelude.{ℕ, suc, pred, ◌/◌, ◌%◌, ◌^◌, Bool}
use Rattle.std.specs.Prelude.{◌&&◌, ℤ, pos, int_div, unsigned_abs, nat_lt, IsTrue}
use Rattle.std.specs.Prelude.{zero as nothing}
use Rattle.std.specs.Int.{IsGcd}

-- A fraction: a whole numerator over a denominator that is one more than `below`, and so at least
-- 1.
pub record Rational : Type 0 where
  pub num : ℤ
  pub below : ℕ

-- the denominator
unfoldable pub den : Rational → ℕ
den q = suc q.below

-- the last of Euclid's remainders from a and b, of which there are at most `turns`
unfoldable pub last_remainder : ℕ → ℕ → ℕ → ℕ
last_remainder nothing a b = a
last_remainder (suc turns) a nothing = a
last_remainder (suc turns) a (suc b) = last_remainder turns (suc b) (a % suc b)

-- the greatest common divisor of a and b, as `lowest_terms` proves of it
unfoldable pub gcd : ℕ → ℕ → ℕ
gcd a b = last_remainder (suc b) a b

-- n over d, where g divides both and is taken out
unfoldable pub cancelled : ℕ → ℤ → ℕ → Rational
cancelled nothing n d = record { num = n; below = pred d }
cancelled (suc g) n d = record { num = int_div n (pos (suc g)); below = pred (d / suc g) }

-- n over d in lowest terms, for a positive d
unfoldable pub ratio : ℤ → ℕ → Rational
ratio n d = cancelled (gcd (unsigned_abs n) d) n d

-- a whole number
unfoldable pub whole : ℤ → Rational
whole n = record { num = n; below = 0 }

-- the numbers 0 and 1
abbrev pub zero : Rational
zero = whole (pos 0)

abbrev pub one : Rational
one = whole (pos 1)

-- lowest terms: only 1 divides both the numerator and the denominator
pub record IsLowest (q : Rational) : Type 0 where
  pub coprime : IsGcd (unsigned_abs q.num) (den q) 1

-- the numerator in size and the denominator are at most 2^63 - 1
unfoldable pub fits : Rational → Bool
fits q = nat_lt (unsigned_abs q.num) (2 ^ 63) && nat_lt (den q) (2 ^ 63)

-- a number that a program holds: in lowest terms, and it fits
pub record IsNumber (q : Rational) : Type 0 where
  pub lowest : IsLowest q
  pub fitting : IsTrue (fits q)
