-- What the calls answer, from the products that they compute at 128 bits.
use Rattle.std.proofs.Common.{◌≡◌, ℕ, zero, suc, ◌*◌, ◌^◌, ◌<◌, Bool, true, false, cond, not, ℤ, pos, negsuc, neg_ℤ, ◌+ℤ◌, ◌-ℤ◌, ◌*ℤ◌, ◌≤ℤ◌, ◌<ℤ◌, Ordering, Less, Equal, Greater, int_cmp, ◌==◌, is_lt, is_eq, is_le, is_gt, is_ge, refl, sym, ap, ap₂, ◌∙◌, subst, arith, to_z, of_z, mul-pos}
use Rattle.std.specs.Prelude.{unsigned_abs, FitsSigned, int_lt}
use Rattle.std.specs.Ordering.{is_ne}
use Rattle.std.specs.Int.{w128}
use Rattle.std.specs.Option.{ok_or}
use Rattle.std.proofs.lemmas.Int.{ints, to_z-of_z, fits_signed_from_abs}
use Rattle.std.proofs.lemmas.Bool.{false≢true}
use Rattle.exact_fraction.specs.Number.{Rational, den, ratio}
use Rattle.exact_fraction.specs.Order.{compares, less, same}
use Rattle.exact_fraction.specs.Operations.{sum_of, difference_of, product_of, quotient_of, quotient_parts, nearest_whole, round9_of}
use Rattle.exact_fraction.specs.Checked.{made, checked, is_zero}
use Rattle.exact_fraction.specs.declared.error.Overflow.{Overflow}
use Rattle.exact_fraction.proofs.Lowest.{den_pos}
use Rattle.exact_fraction.proofs.Sums.{dens_pos, size-sign}
use Rattle.exact_fraction.proofs.Held.{wide, minus_is, made_checked}

-- ---- products
-- r is v, and it is passed whole
pub record Timed (r v : ℤ) : Type 0 where
  pub passed : to_z w128 (of_z w128 r) ≡ v
  pub size : unsigned_abs v < 2 ^ 126

fits_126 : (v : ℤ) → unsigned_abs v < 2 ^ 126 → FitsSigned w128 v
fits_126 v h = fits_signed_from_abs w128 v (omega arith)

pub timed : (x y a b r : ℤ) → x ≡ a → y ≡ b → unsigned_abs x < 2 ^ 63 → unsigned_abs y < 2 ^ 63 → r ≡ to_z w128 (of_z w128 x) *ℤ to_z w128 (of_z w128 y) → unsigned_abs r < 2 ^ 126 → Timed r (a *ℤ b)
timed x y a b r e f p q k s =
    let is = k ∙ ap₂ (λ m n. m *ℤ n) (wide x p ∙ e) (wide y q ∙ f) in
    record { passed = to_z-of_z w128 r (fits_126 r s) ∙ is; size = subst (λ z. unsigned_abs z < 2 ^ 126) is s }

-- ---- the order
pub compares_passed : (p q : Rational) (r s : ℤ) (o : Ordering) → Timed r (p.num *ℤ pos (den q)) → Timed s (q.num *ℤ pos (den p)) → o ≡ int_cmp (to_z w128 (of_z w128 r)) (to_z w128 (of_z w128 s)) → o ≡ compares p q
unfolding compares
compares_passed p q r s o a b e = e ∙ ap₂ int_cmp a.passed b.passed

lt_is : (x y : ℤ) → is_lt (int_cmp x y) ≡ int_lt x y
lt_is x y = by_test (int_lt x y) (int_lt y x)
  where
    by_test : (s t : Bool) → is_lt (cond s Less (cond t Greater Equal)) ≡ s
    by_test true t = refl
    by_test false true = refl
    by_test false false = refl

gt_is : (x y : ℤ) → is_gt (int_cmp x y) ≡ int_lt y x
gt_is x y = by_test (int_lt x y) (int_lt y x) refl refl
  where
    by_test : (s t : Bool) → int_lt x y ≡ s → int_lt y x ≡ t → is_gt (cond s Less (cond t Greater Equal)) ≡ t
    by_test true true e f = absurd (omega (arith, ints, e, f))
    by_test true false e f = refl
    by_test false true e f = refl
    by_test false false e f = refl

le_is : (o : Ordering) → is_le o ≡ not (is_gt o)
le_is Less = refl
le_is Equal = refl
le_is Greater = refl

ge_is : (o : Ordering) → is_ge o ≡ not (is_lt o)
ge_is Less = refl
ge_is Equal = refl
ge_is Greater = refl

ne_is : (o : Ordering) → is_ne o ≡ not (is_eq o)
ne_is Less = refl
ne_is Equal = refl
ne_is Greater = refl

pub eq_compares : (p q : Rational) → is_eq (compares p q) ≡ same p q
unfolding compares same
eq_compares p q = refl

pub ne_compares : (p q : Rational) → is_ne (compares p q) ≡ not (same p q)
unfolding compares same
ne_compares p q = ne_is (compares p q)

pub lt_compares : (p q : Rational) → is_lt (compares p q) ≡ less p q
unfolding compares less
lt_compares p q = lt_is (p.num *ℤ pos (den q)) (q.num *ℤ pos (den p))

pub gt_compares : (p q : Rational) → is_gt (compares p q) ≡ less q p
unfolding compares less
gt_compares p q = gt_is (p.num *ℤ pos (den q)) (q.num *ℤ pos (den p))

pub le_compares : (p q : Rational) → is_le (compares p q) ≡ not (less q p)
le_compares p q = le_is (compares p q) ∙ ap not (gt_compares p q)

pub ge_compares : (p q : Rational) → is_ge (compares p q) ≡ not (less p q)
ge_compares p q = ge_is (compares p q) ∙ ap not (lt_compares p q)

-- ---- sums, differences, products
sum_fits : (a b : ℤ) → unsigned_abs a < 2 ^ 126 → unsigned_abs b < 2 ^ 126 → FitsSigned w128 (a +ℤ b)
sum_fits a b h k = omega (arith, ints)

difference_fits : (a b : ℤ) → unsigned_abs a < 2 ^ 126 → unsigned_abs b < 2 ^ 126 → FitsSigned w128 (a -ℤ b)
difference_fits a b h k = omega (arith, ints)

positive : (n : ℕ) → 0 < n → pos 0 <ℤ pos n
positive n h = omega (arith, ints)

pub sum_made : (p q : Rational) (r s t : ℤ) (e : Overflow) → Timed r (p.num *ℤ pos (den q)) → Timed s (q.num *ℤ pos (den p)) → Timed t (pos (den p) *ℤ pos (den q)) → ok_or (made (to_z w128 (of_z w128 (to_z w128 (of_z w128 r) +ℤ to_z w128 (of_z w128 s)))) (to_z w128 (of_z w128 t))) e ≡ checked (sum_of p q)
unfolding sum_of
sum_made p q r s t e a b c =
    let n = p.num *ℤ pos (den q) +ℤ q.num *ℤ pos (den p) in
    let num = ap₂ (λ x y. to_z w128 (of_z w128 (x +ℤ y))) a.passed b.passed ∙ to_z-of_z w128 n (sum_fits (p.num *ℤ pos (den q)) (q.num *ℤ pos (den p)) a.size b.size) in
    ap₂ (λ x y. ok_or (made x y) e) num c.passed ∙ made_checked n (pos (den p * den q)) e (positive _ (dens_pos p q))

pub difference_made : (p q : Rational) (r s t : ℤ) (e : Overflow) → Timed r (p.num *ℤ pos (den q)) → Timed s (q.num *ℤ pos (den p)) → Timed t (pos (den p) *ℤ pos (den q)) → ok_or (made (to_z w128 (of_z w128 (to_z w128 (of_z w128 r) -ℤ to_z w128 (of_z w128 s)))) (to_z w128 (of_z w128 t))) e ≡ checked (difference_of p q)
unfolding difference_of
difference_made p q r s t e a b c =
    let n = p.num *ℤ pos (den q) -ℤ q.num *ℤ pos (den p) in
    let num = ap₂ (λ x y. to_z w128 (of_z w128 (x -ℤ y))) a.passed b.passed ∙ to_z-of_z w128 n (difference_fits (p.num *ℤ pos (den q)) (q.num *ℤ pos (den p)) a.size b.size) in
    ap₂ (λ x y. ok_or (made x y) e) num c.passed ∙ made_checked n (pos (den p * den q)) e (positive _ (dens_pos p q))

pub product_made : (p q : Rational) (r t : ℤ) (e : Overflow) → Timed r (p.num *ℤ q.num) → Timed t (pos (den p) *ℤ pos (den q)) → ok_or (made (to_z w128 (of_z w128 r)) (to_z w128 (of_z w128 t))) e ≡ checked (product_of p q)
unfolding product_of
product_made p q r t e a c =
    ap₂ (λ x y. ok_or (made x y) e) a.passed c.passed ∙ made_checked (p.num *ℤ q.num) (pos (den p * den q)) e (positive _ (dens_pos p q))

-- ---- rounding
pub round9_made : (p : Rational) (r m : ℤ) (d : ℕ) (e : Overflow) → Timed r (p.num *ℤ pos 1000000000) → FitsSigned w128 m → d ≡ den p → m ≡ nearest_whole (to_z w128 (of_z w128 r)) d → ok_or (made (to_z w128 (of_z w128 m)) (pos 1000000000)) e ≡ checked (round9_of p)
unfolding round9_of
round9_made p r m d e a f g k =
    let n = nearest_whole (p.num *ℤ pos 1000000000) (den p) in
    ap (λ x. ok_or (made x (pos 1000000000)) e) (to_z-of_z w128 m f ∙ k ∙ ap₂ nearest_whole a.passed g)
    ∙ made_checked n (pos 1000000000) e (positive 1000000000 (omega arith))

-- ---- quotients
parts_up : (n m : ℤ) (d e : ℕ) → pos 0 <ℤ m → quotient_parts n d m e ≡ ratio (n *ℤ pos e) (d * unsigned_abs m)
unfolding quotient_parts
parts_up n (pos zero) d e h = absurd (omega (arith, ints))
parts_up n (pos (suc m)) d e h = refl
parts_up n (negsuc m) d e h = absurd (omega (arith, ints))

parts_down : (n m : ℤ) (d e : ℕ) → m <ℤ pos 0 → quotient_parts n d m e ≡ ratio (neg_ℤ (n *ℤ pos e)) (d * unsigned_abs m)
unfolding quotient_parts
parts_down n (pos m) d e h = absurd (omega (arith, ints))
parts_down n (negsuc m) d e h = refl

size_up : (m : ℤ) → pos 0 <ℤ m → (m ≡ pos (unsigned_abs m)) × (0 < unsigned_abs m)
size_up (pos m) h = (refl, omega (arith, ints))
size_up (negsuc m) h = absurd (omega (arith, ints))

size_down : (m : ℤ) → m <ℤ pos 0 → (neg_ℤ m ≡ pos (unsigned_abs m)) × (0 < unsigned_abs m)
size_down (pos m) h = absurd (omega (arith, ints))
size_down (negsuc m) h = (refl, omega arith)

-- a numerator that is not below 0, of a number that is not 0
pub above_zero : (q : Rational) → is_zero q ≡ false → pos 0 ≤ℤ q.num → pos 0 <ℤ q.num
unfolding is_zero
above_zero q h k = by_size q.num refl
  where
    by_size : (m : ℤ) → q.num ≡ m → pos 0 <ℤ q.num
    by_size (pos zero) e = absurd (false≢true (sym h ∙ ap (λ n. unsigned_abs n == 0) e))
    by_size (pos (suc m)) e = omega (arith, ints)
    by_size (negsuc m) e = absurd (omega (arith, ints))

-- the size of a negative numerator, passed
pub turned : (m : ℤ) → unsigned_abs m < 2 ^ 63 → (pos 0 -ℤ to_z w128 (of_z w128 m) ≡ neg_ℤ m) × (unsigned_abs (pos 0 -ℤ to_z w128 (of_z w128 m)) < 2 ^ 63) × (to_z w128 (of_z w128 (pos 0 -ℤ to_z w128 (of_z w128 m))) ≡ neg_ℤ m)
turned m h =
    let e = ap (λ x. pos 0 -ℤ x) (wide m h) ∙ minus_is m in
    (e, rw (e, size-sign m) h, ap (λ x. to_z w128 (of_z w128 x)) e ∙ wide (neg_ℤ m) (rw (size-sign m) h))

made_quotient : (p q : Rational) (n d : ℤ) (m : ℕ) (e : Overflow) → d ≡ pos (den p * m) → 0 < m
    → quotient_of p q ≡ ratio n (den p * m) → ok_or (made n d) e ≡ checked (quotient_of p q)
made_quotient p q n d m e h k is =
    ap (λ x. ok_or (made n x) e) h
    ∙ made_checked n (pos (den p * m)) e (positive _ (mul-pos (den_pos p) k))
    ∙ ap checked (sym is)

pub quotient_up : (p q : Rational) (r t : ℤ) (e : Overflow) → Timed r (p.num *ℤ pos (den q)) → Timed t (pos (den p) *ℤ q.num)
    → pos 0 <ℤ q.num → ok_or (made (to_z w128 (of_z w128 r)) (to_z w128 (of_z w128 t))) e ≡ checked (quotient_of p q)
unfolding quotient_of
quotient_up p q r t e a b h =
    let size = size_up q.num h in
    let d = b.passed ∙ ap (λ x. pos (den p) *ℤ x) size.0 in
    ap (λ x. ok_or (made x (to_z w128 (of_z w128 t))) e) a.passed
    ∙ made_quotient p q (p.num *ℤ pos (den q)) (to_z w128 (of_z w128 t)) (unsigned_abs q.num) e d size.1 (parts_up p.num q.num (den p) (den q) h)

pub quotient_down : (p q : Rational) (r t : ℤ) (e : Overflow) → Timed r (p.num *ℤ pos (den q)) → Timed t (pos (den p) *ℤ neg_ℤ q.num)
    → q.num <ℤ pos 0 → ok_or (made (to_z w128 (of_z w128 (pos 0 -ℤ to_z w128 (of_z w128 r)))) (to_z w128 (of_z w128 t))) e ≡ checked (quotient_of p q)
unfolding quotient_of
quotient_down p q r t e a b h =
    let v = p.num *ℤ pos (den q) in
    let size = size_down q.num h in
    let d = b.passed ∙ ap (λ x. pos (den p) *ℤ x) size.0 in
    let n = ap (λ x. to_z w128 (of_z w128 (pos 0 -ℤ x))) a.passed ∙ ap (λ x. to_z w128 (of_z w128 x)) (minus_is v) ∙ to_z-of_z w128 (neg_ℤ v) (fits_126 (neg_ℤ v) (rw (size-sign v) a.size)) in
    ap (λ x. ok_or (made x (to_z w128 (of_z w128 t))) e) n
    ∙ made_quotient p q (neg_ℤ v) (to_z w128 (of_z w128 t)) (unsigned_abs q.num) e d size.1 (parts_down p.num q.num (den p) (den q) h)
