-- Sums and differences over a common multiple of the denominators.
use Rattle.std.proofs.Common.{◌≡◌, ℕ, ◌*◌, ◌^◌, ◌<◌, ℤ, pos, ◌+ℤ◌, ◌-ℤ◌, ◌*ℤ◌, ap, sym, ◌∙◌, subst}
use Rattle.std.proofs.Common.{arith}
use Rattle.std.specs.Prelude.{unsigned_abs, IsTrue}
use Rattle.exact_fraction.specs.Number.{Rational, den, ratio, fits}
use Rattle.exact_fraction.specs.Operations.{sum_of, difference_of}
use Rattle.exact_fraction.proofs.Ring.{at, nat, plus, less, by, ring, parts_same}
use Rattle.exact_fraction.proofs.Ratios.{ratio_same}
use Rattle.exact_fraction.proofs.Sums.{dens_pos}
use Rattle.exact_fraction.proofs.Fitting.{ratio_fits}

-- one of the two numerators, over both denominators
left_numerator : (a : ℤ) (b f k l : ℕ) → l ≡ k * b
    → (a *ℤ pos f) *ℤ pos l ≡ (a *ℤ pos k) *ℤ pos (b * f)
left_numerator a b f k l e =
    ap (λ x. (a *ℤ pos f) *ℤ pos x) e
    ∙ ring (by (by (at a) (nat f)) (nat (k * b))) (by (by (at a) (nat k)) (nat (b * f))) (omega arith)

right_numerator : (c : ℤ) (b f j l : ℕ) → l ≡ j * f
    → (c *ℤ pos b) *ℤ pos l ≡ (c *ℤ pos j) *ℤ pos (b * f)
right_numerator c b f j l e =
    ap (λ x. (c *ℤ pos b) *ℤ pos x) e
    ∙ ring (by (by (at c) (nat b)) (nat (j * f))) (by (by (at c) (nat j)) (nat (b * f))) (omega arith)

difference_times : (a c x y : ℤ) (l m : ℕ) → a *ℤ pos l ≡ x *ℤ pos m → c *ℤ pos l ≡ y *ℤ pos m
    → (a -ℤ c) *ℤ pos l ≡ (x -ℤ y) *ℤ pos m
difference_times a c x y l m h k =
    let p = parts_same (by (at a) (nat l)) (by (at x) (nat m)) h in
    let q = parts_same (by (at c) (nat l)) (by (at y) (nat m)) k in
    ring (by (less (at a) (at c)) (nat l)) (by (less (at x) (at y)) (nat m)) (omega (arith, p, q))

sum_times : (a c x y : ℤ) (l m : ℕ) → a *ℤ pos l ≡ x *ℤ pos m → c *ℤ pos l ≡ y *ℤ pos m
    → (a +ℤ c) *ℤ pos l ≡ (x +ℤ y) *ℤ pos m
sum_times a c x y l m h k =
    let p = parts_same (by (at a) (nat l)) (by (at x) (nat m)) h in
    let q = parts_same (by (at c) (nat l)) (by (at y) (nat m)) k in
    ring (by (plus (at a) (at c)) (nat l)) (by (plus (at x) (at y)) (nat m)) (omega (arith, p, q))

pub common_difference : (p q : Rational) (j k l : ℕ) → 0 < l → l ≡ k * den p → l ≡ j * den q
    → difference_of p q ≡ ratio (p.num *ℤ pos k -ℤ q.num *ℤ pos j) l
unfolding difference_of
common_difference p q j k l some e f =
    ratio_same (p.num *ℤ pos (den q) -ℤ q.num *ℤ pos (den p)) (p.num *ℤ pos k -ℤ q.num *ℤ pos j) (den p * den q) l (dens_pos p q) some
    (difference_times (p.num *ℤ pos (den q)) (q.num *ℤ pos (den p)) (p.num *ℤ pos k) (q.num *ℤ pos j) l (den p * den q)
    (left_numerator p.num (den p) (den q) k l e) (right_numerator q.num (den p) (den q) j l f))

pub common_sum : (p q : Rational) (j k l : ℕ) → 0 < l → l ≡ k * den p → l ≡ j * den q
    → sum_of p q ≡ ratio (p.num *ℤ pos k +ℤ q.num *ℤ pos j) l
unfolding sum_of
common_sum p q j k l some e f =
    ratio_same (p.num *ℤ pos (den q) +ℤ q.num *ℤ pos (den p)) (p.num *ℤ pos k +ℤ q.num *ℤ pos j) (den p * den q) l (dens_pos p q) some
    (sum_times (p.num *ℤ pos (den q)) (q.num *ℤ pos (den p)) (p.num *ℤ pos k) (q.num *ℤ pos j) l (den p * den q)
    (left_numerator p.num (den p) (den q) k l e) (right_numerator q.num (den p) (den q) j l f))

pub difference_fits : (p q : Rational) (j k l : ℕ) → 0 < l → l ≡ k * den p → l ≡ j * den q
    → unsigned_abs (p.num *ℤ pos k -ℤ q.num *ℤ pos j) < 2 ^ 63 → l < 2 ^ 63
    → IsTrue (fits (difference_of p q))
difference_fits p q j k l some e f small below =
    subst (λ r. IsTrue (fits r)) (sym (common_difference p q j k l some e f))
    (ratio_fits (p.num *ℤ pos k -ℤ q.num *ℤ pos j) l some small below)

pub sum_fits : (p q : Rational) (j k l : ℕ) → 0 < l → l ≡ k * den p → l ≡ j * den q
    → unsigned_abs (p.num *ℤ pos k +ℤ q.num *ℤ pos j) < 2 ^ 63 → l < 2 ^ 63
    → IsTrue (fits (sum_of p q))
sum_fits p q j k l some e f small below =
    subst (λ r. IsTrue (fits r)) (sym (common_sum p q j k l some e f))
    (ratio_fits (p.num *ℤ pos k +ℤ q.num *ℤ pos j) l some small below)
