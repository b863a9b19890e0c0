-- Equations and orders of polynomials over ℤ, decided by `omega arith` over ℕ: a polynomial is read
-- as its positive part less its negative part.
use Rattle.std.proofs.Common.{◌≡◌, ℕ, ◌+◌, ◌*◌, ◌<◌, ◌≤◌, Bool, true, false, ℤ, pos, neg_ℤ, ◌+ℤ◌, ◌-ℤ◌, ◌*ℤ◌, ◌≤ℤ◌, ◌<ℤ◌, ap, arith}
use borrow.Author.Differences.{up, down, same_in, same_out, at_most_in, below_in, le_out, lt_out, sum_is_lem, neg_is, product_is}

-- a polynomial: a whole number, a natural number, a sum, a difference, a product, a sign
pub data Poly : Type 0 where
  at : ℤ → Poly
  nat : ℕ → Poly
  plus : Poly → Poly → Poly
  less : Poly → Poly → Poly
  by : Poly → Poly → Poly
  minus : Poly → Poly

abbrev pub value : Poly → ℤ
value (at z) = z
value (nat n) = pos n
value (plus a b) = value a +ℤ value b
value (less a b) = value a -ℤ value b
value (by a b) = value a *ℤ value b
value (minus a) = neg_ℤ (value a)

-- the positive part at `true`, the negative part at `false`
abbrev pub part : Poly → Bool → ℕ
part (at z) true = up z
part (at z) false = down z
part (nat n) true = n
part (nat n) false = 0
part (plus a b) t = part a t + part b t
part (less a b) true = part a true + part b false
part (less a b) false = part a false + part b true
part (by a b) true = part a true * part b true + part a false * part b false
part (by a b) false = part a true * part b false + part a false * part b true
part (minus a) true = part a false
part (minus a) false = part a true

times_parts : (U D u v U' D' u' v' : ℕ) → U + v ≡ u + D → U' + v' ≡ u' + D' → (U * U' + D * D') + (u * v' + v * u') ≡ (u * u' + v * v') + (U * D' + D * U')
times_parts U D u v U' D' u' v' e f =
    omega (arith, ap (λ x. U * x) f, ap (λ x. D * x) f, ap (λ x. x * u') e, ap (λ x. x * v') e)

-- the parts are those of the value
pub parts_are : (p : Poly) → up (value p) + part p false ≡ part p true + down (value p)
parts_are (at z) = omega arith
parts_are (nat n) = omega arith
parts_are (plus a b) = omega (arith, parts_are a, parts_are b, sum_is_lem (value a) (value b))
parts_are (less a b) = omega (arith, parts_are a, parts_are b, sum_is_lem (value a) (neg_ℤ (value b)), neg_is (value b))
parts_are (by a b) =
    omega (arith, product_is (value a) (value b), times_parts _ _ (part a true) (part a false) _ _ (part b true) (part b false) (parts_are a) (parts_are b))
parts_are (minus a) = omega (arith, parts_are a, neg_is (value a))

-- from the parts to the values
pub ring : (l r : Poly) → part l true + part r false ≡ part r true + part l false → value l ≡ value r
ring l r h = same_in (value l) (value r) (omega (arith, h, parts_are l, parts_are r))

pub ring_le : (l r : Poly) → part l true + part r false ≤ part r true + part l false → value l ≤ℤ value r
ring_le l r h = at_most_in (value l) (value r) (omega (arith, h, parts_are l, parts_are r))

pub ring_lt : (l r : Poly) → part l true + part r false < part r true + part l false → value l <ℤ value r
ring_lt l r h = below_in (value l) (value r) (omega (arith, h, parts_are l, parts_are r))

-- from the values to the parts
pub parts_same : (l r : Poly) → value l ≡ value r → part l true + part r false ≡ part r true + part l false
parts_same l r h = omega (arith, same_out (value l) (value r) h, parts_are l, parts_are r)

pub parts_le : (l r : Poly) → value l ≤ℤ value r → part l true + part r false ≤ part r true + part l false
parts_le l r h = omega (arith, le_out (value l) (value r) h, parts_are l, parts_are r)

pub parts_lt : (l r : Poly) → value l <ℤ value r → part l true + part r false < part r true + part l false
parts_lt l r h = omega (arith, lt_out (value l) (value r) h, parts_are l, parts_are r)
