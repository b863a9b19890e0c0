-- The order of the numbers, by multiplying crosswise, and the tests of it that compute.
use Rattle.std.specs.Prelude.{Bool, if◌then◌else◌, pos, ◌*ℤ◌, ◌≤ℤ◌, ◌<ℤ◌, ◌≡◌, int_lt}
use Rattle.std.specs.declared.cmp.Ordering.{Ordering}
use Rattle.std.specs.Ordering.{int_cmp, int_eq}
use Rattle.exact_fraction.specs.Number.{Rational, den}

infix 4 ◌≤ℚ◌ ◌<ℚ◌ ◌=ℚ◌
-- p is at most q
pub record ◌≤ℚ◌ (p q : Rational) : Type 0 where
  pub le : (p.num *ℤ pos (den q)) ≤ℤ (q.num *ℤ pos (den p))

-- p is below q
pub record ◌<ℚ◌ (p q : Rational) : Type 0 where
  pub lt : (p.num *ℤ pos (den q)) <ℤ (q.num *ℤ pos (den p))

-- p and q are the same number, in lowest terms or not
pub record ◌=ℚ◌ (p q : Rational) : Type 0 where
  pub eq : p.num *ℤ pos (den q) ≡ q.num *ℤ pos (den p)

-- how p stands to q
unfoldable pub compares : Rational → Rational → Ordering
compares p q = int_cmp (p.num *ℤ pos (den q)) (q.num *ℤ pos (den p))

-- whether p is below q
unfoldable pub less : Rational → Rational → Bool
less p q = int_lt (p.num *ℤ pos (den q)) (q.num *ℤ pos (den p))

-- whether p and q are the same number
unfoldable pub same : Rational → Rational → Bool
same p q = int_eq (p.num *ℤ pos (den q)) (q.num *ℤ pos (den p))

-- the greater and the lesser of two numbers, and the first where they are the same
abbrev pub greater_of : Rational → Rational → Rational
greater_of p q = if less p q then q else p

abbrev pub lesser_of : Rational → Rational → Rational
lesser_of p q = if less q p then q else p

-- the value lies between the ends, whichever is the greater
pub record IsBetween (p q value : Rational) : Type 0 where
  pub low : lesser_of p q ≤ℚ value
  pub high : value ≤ℚ greater_of p q
