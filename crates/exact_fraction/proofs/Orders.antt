-- The order of the fractions.
use Rattle.std.proofs.Common.{◌≡◌, ℕ, ◌*◌, ◌<◌, ◌⊎◌, Bool, true, false, cond, not, Ordering, Less, Equal, Greater, refl, ◌∙◌, ℤ, pos, ◌*ℤ◌, ◌≤ℤ◌, ◌<ℤ◌, sym, ap, arith, mul-le-mul_right, mul-lt-mul_of_pos_right, le_of_mul-le-mul_right, lt_of_mul-lt-mul_right}
use Rattle.std.proofs.Math.Nat.{eq_of_mul-eq-mul_right}
use Rattle.std.specs.Ordering.{MatchOrdering}
use Rattle.std.proofs.lemmas.Int.{ints}
use Rattle.std.proofs.lemmas.Cmp.{int_ranked}
use Rattle.std.proofs.lemmas.Bool.{false≢true, not-true}
use Rattle.std.proofs.lemmas.Bool.Decides.{Decides-int_eq}
use Rattle.exact_fraction.specs.Number.{Rational, den}
use Rattle.exact_fraction.specs.Order.{◌≤ℚ◌, ◌<ℚ◌, ◌=ℚ◌, compares, less, same, lesser_of, greater_of}
use Rattle.exact_fraction.proofs.Ring.{at, nat, by, ring, ring_le, ring_lt, parts_same, parts_le, parts_lt}
use Rattle.exact_fraction.proofs.Lowest.{den_pos}

-- ---- a/b, c/d and e/f, crosswise
pub le_cross : (a c e : ℤ) (b d f : ℕ) → 0 < d → (a *ℤ pos d) ≤ℤ (c *ℤ pos b) → (c *ℤ pos f) ≤ℤ (e *ℤ pos d) → (a *ℤ pos f) ≤ℤ (e *ℤ pos b)
le_cross a c e b d f p h k =
    let x = mul-le-mul_right f (parts_le (by (at a) (nat d)) (by (at c) (nat b)) h) in
    let y = mul-le-mul_right b (parts_le (by (at c) (nat f)) (by (at e) (nat d)) k) in
    ring_le (by (at a) (nat f)) (by (at e) (nat b)) (le_of_mul-le-mul_right {k = d} (omega arith) p)

pub lt_le_cross : (a c e : ℤ) (b d f : ℕ) → 0 < f → (a *ℤ pos d) <ℤ (c *ℤ pos b) → (c *ℤ pos f) ≤ℤ (e *ℤ pos d) → (a *ℤ pos f) <ℤ (e *ℤ pos b)
lt_le_cross a c e b d f p h k =
    let x = mul-lt-mul_of_pos_right {k = f} (parts_lt (by (at a) (nat d)) (by (at c) (nat b)) h) p in
    let y = mul-le-mul_right b (parts_le (by (at c) (nat f)) (by (at e) (nat d)) k) in
    ring_lt (by (at a) (nat f)) (by (at e) (nat b)) (lt_of_mul-lt-mul_right d (omega arith))

pub le_lt_cross : (a c e : ℤ) (b d f : ℕ) → 0 < b → (a *ℤ pos d) ≤ℤ (c *ℤ pos b) → (c *ℤ pos f) <ℤ (e *ℤ pos d) → (a *ℤ pos f) <ℤ (e *ℤ pos b)
le_lt_cross a c e b d f p h k =
    let x = mul-le-mul_right f (parts_le (by (at a) (nat d)) (by (at c) (nat b)) h) in
    let y = mul-lt-mul_of_pos_right {k = b} (parts_lt (by (at c) (nat f)) (by (at e) (nat d)) k) p in
    ring_lt (by (at a) (nat f)) (by (at e) (nat b)) (lt_of_mul-lt-mul_right d (omega arith))

pub eq_cross : (a c e : ℤ) (b d f : ℕ) → 0 < d → a *ℤ pos d ≡ c *ℤ pos b → c *ℤ pos f ≡ e *ℤ pos d → a *ℤ pos f ≡ e *ℤ pos b
eq_cross a c e b d f p h k =
    let x = ap (λ n. n * f) (parts_same (by (at a) (nat d)) (by (at c) (nat b)) h) in
    let y = ap (λ n. n * b) (parts_same (by (at c) (nat f)) (by (at e) (nat d)) k) in
    ring (by (at a) (nat f)) (by (at e) (nat b)) (eq_of_mul-eq-mul_right d p _ _ (omega (arith, x, y)))

-- ---- the order is total
pub ≤ℚ_refl : (p : Rational) → p ≤ℚ p
≤ℚ_refl p = record { le = omega (arith, ints) }

pub ≤ℚ_total : (p q : Rational) → (p ≤ℚ q) ⊎ (q <ℚ p)
≤ℚ_total p q = grind (arith, ints)

pub ≤ℚ_apart : (p q : Rational) → p ≤ℚ q → ¬ (q <ℚ p)
≤ℚ_apart p q h k = absurd (omega (arith, ints, h.le, k.lt))

pub ≤ℚ_antisymm : (p q : Rational) → p ≤ℚ q → q ≤ℚ p → p =ℚ q
≤ℚ_antisymm p q h k = record { eq = omega (arith, ints, h.le, k.le) }

pub <ℚ-at_most : (p q : Rational) → p <ℚ q → p ≤ℚ q
<ℚ-at_most p q h = record { le = omega (arith, ints, h.lt) }

pub ≤ℚ_trans : (p q r : Rational) → p ≤ℚ q → q ≤ℚ r → p ≤ℚ r
≤ℚ_trans p q r h k = record { le = le_cross p.num q.num r.num (den p) (den q) (den r) (den_pos q) h.le k.le }

pub <ℚ-≤ℚ_trans : (p q r : Rational) → p <ℚ q → q ≤ℚ r → p <ℚ r
<ℚ-≤ℚ_trans p q r h k = record { lt = lt_le_cross p.num q.num r.num (den p) (den q) (den r) (den_pos r) h.lt k.le }

pub ≤ℚ-<ℚ_trans : (p q r : Rational) → p ≤ℚ q → q <ℚ r → p <ℚ r
≤ℚ-<ℚ_trans p q r h k = record { lt = le_lt_cross p.num q.num r.num (den p) (den q) (den r) (den_pos p) h.le k.lt }

pub <ℚ_trans : (p q r : Rational) → p <ℚ q → q <ℚ r → p <ℚ r
<ℚ_trans p q r h k = <ℚ-≤ℚ_trans p q r h (<ℚ-at_most q r k)

-- ---- the same number
pub =ℚ-at_most : (p q : Rational) → p =ℚ q → p ≤ℚ q
=ℚ-at_most p q h = record { le = omega (arith, ints, h.eq) }

pub =ℚ-at_least : (p q : Rational) → p =ℚ q → q ≤ℚ p
=ℚ-at_least p q h = record { le = omega (arith, ints, h.eq) }

pub =ℚ_sym : (p q : Rational) → p =ℚ q → q =ℚ p
=ℚ_sym p q h = record { eq = sym h.eq }

pub =ℚ_trans : (p q r : Rational) → p =ℚ q → q =ℚ r → p =ℚ r
=ℚ_trans p q r h k = record { eq = eq_cross p.num q.num r.num (den p) (den q) (den r) (den_pos q) h.eq k.eq }

-- ---- tests of the order
pub less_true : (p q : Rational) → less p q ≡ true → p <ℚ q
unfolding less
less_true p q e = record { lt = omega (arith, ints) }

pub less_false : (p q : Rational) → less p q ≡ false → q ≤ℚ p
unfolding less
less_false p q e = record { le = omega (arith, ints) }

pub true_less : (p q : Rational) → p <ℚ q → less p q ≡ true
unfolding less
true_less p q h = sym (omega (arith, ints, h.lt))

pub false_less : (p q : Rational) → q ≤ℚ p → less p q ≡ false
unfolding less
false_less p q h = sym (omega (arith, ints, h.le))

-- ---- the greater and the lesser
pub lesser_left : (p q : Rational) → lesser_of p q ≤ℚ p
lesser_left p q = by_test (less q p) refl
  where
    by_test : (t : Bool) → less q p ≡ t → cond t q p ≤ℚ p
    by_test true e = <ℚ-at_most q p (less_true q p e)
    by_test false e = ≤ℚ_refl p

pub lesser_right : (p q : Rational) → lesser_of p q ≤ℚ q
lesser_right p q = by_test (less q p) refl
  where
    by_test : (t : Bool) → less q p ≡ t → cond t q p ≤ℚ q
    by_test true e = ≤ℚ_refl q
    by_test false e = less_false q p e

pub greater_left : (p q : Rational) → p ≤ℚ greater_of p q
greater_left p q = by_test (less p q) refl
  where
    by_test : (t : Bool) → less p q ≡ t → p ≤ℚ cond t q p
    by_test true e = <ℚ-at_most p q (less_true p q e)
    by_test false e = ≤ℚ_refl p

pub greater_right : (p q : Rational) → q ≤ℚ greater_of p q
greater_right p q = by_test (less p q) refl
  where
    by_test : (t : Bool) → less p q ≡ t → q ≤ℚ cond t q p
    by_test true e = ≤ℚ_refl q
    by_test false e = less_false p q e

pub same_true : (p q : Rational) → same p q ≡ true → p =ℚ q
unfolding same
same_true p q e = record { eq = (Decides-int_eq (p.num *ℤ pos (den q)) (q.num *ℤ pos (den p))).0 e }

pub true_same : (p q : Rational) → p =ℚ q → same p q ≡ true
unfolding same
true_same p q h = (Decides-int_eq (p.num *ℤ pos (den q)) (q.num *ℤ pos (den p))).1 h.eq

ranked : (p q : Rational) (o : Ordering) → MatchOrdering o ((p.num *ℤ pos (den q)) <ℤ (q.num *ℤ pos (den p))) (p.num *ℤ pos (den q) ≡ q.num *ℤ pos (den p)) ((q.num *ℤ pos (den p)) <ℤ (p.num *ℤ pos (den q))) → MatchOrdering o (p <ℚ q) (p =ℚ q) (q <ℚ p)
ranked p q Less h = record { lt = h }
ranked p q Equal h = record { eq = h }
ranked p q Greater h = record { lt = h }

pub compares_ranks : (p q : Rational) → MatchOrdering (compares p q) (p <ℚ q) (p =ℚ q) (q <ℚ p)
unfolding compares
compares_ranks p q = ranked p q (compares p q) (int_ranked (p.num *ℤ pos (den q)) (q.num *ℤ pos (den p)) (compares p q) refl)

pub unequal_tells : (p q : Rational) → not (same p q) ≡ true → ¬ (p =ℚ q)
unequal_tells p q e h = false≢true (sym (not-true (same p q) e) ∙ true_same p q h)

pub unequal_test : (p q : Rational) → ¬ (p =ℚ q) → not (same p q) ≡ true
unequal_test p q h = by_test (same p q) refl
  where
    by_test : (t : Bool) → same p q ≡ t → not t ≡ true
    by_test true e = absurd (h (same_true p q e))
    by_test false e = refl
