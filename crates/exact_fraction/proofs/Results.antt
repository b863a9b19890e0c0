-- The result of each operation is in lowest terms.
use Rattle.std.proofs.Common.{ℕ, suc, ◌*◌, ◌<◌, ℤ, pos, negsuc, neg_ℤ, ◌+ℤ◌, ◌-ℤ◌, ◌*ℤ◌, arith, mul-pos}
use Rattle.std.proofs.Common.{zero as nothing}
use Rattle.exact_fraction.specs.Number.{Rational, den, IsLowest}
use Rattle.exact_fraction.specs.Operations.{sum_of, difference_of, product_of, quotient_of, quotient_parts, nearest_whole, round9_of}
use Rattle.exact_fraction.proofs.Lowest.{den_pos, IsLowest-ratio}
use Rattle.exact_fraction.proofs.Sums.{dens_pos}
use Rattle.exact_fraction.proofs.Held.{IsLowest-whole}

pub sum_lowest : (p q : Rational) → IsLowest (sum_of p q)
unfolding sum_of
sum_lowest p q = IsLowest-ratio (p.num *ℤ pos (den q) +ℤ q.num *ℤ pos (den p)) (den p * den q) (dens_pos p q)

pub difference_lowest : (p q : Rational) → IsLowest (difference_of p q)
unfolding difference_of
difference_lowest p q = IsLowest-ratio (p.num *ℤ pos (den q) -ℤ q.num *ℤ pos (den p)) (den p * den q) (dens_pos p q)

pub product_lowest : (p q : Rational) → IsLowest (product_of p q)
unfolding product_of
product_lowest p q = IsLowest-ratio (p.num *ℤ q.num) (den p * den q) (dens_pos p q)

parts_lowest : (n m : ℤ) (d e : ℕ) → 0 < d → IsLowest (quotient_parts n d m e)
unfolding quotient_parts
parts_lowest n (pos nothing) d e h = IsLowest-whole (pos 0)
parts_lowest n (pos (suc m)) d e h = IsLowest-ratio (n *ℤ pos e) (d * suc m) (mul-pos h (omega arith))
parts_lowest n (negsuc m) d e h = IsLowest-ratio (neg_ℤ (n *ℤ pos e)) (d * suc m) (mul-pos h (omega arith))

pub quotient_lowest : (p q : Rational) → IsLowest (quotient_of p q)
unfolding quotient_of
quotient_lowest p q = parts_lowest p.num q.num (den p) (den q) (den_pos p)

pub round9_lowest : (q : Rational) → IsLowest (round9_of q)
unfolding round9_of
round9_lowest q = IsLowest-ratio (nearest_whole (q.num *ℤ pos 1000000000) (den q)) 1000000000 (omega arith)
