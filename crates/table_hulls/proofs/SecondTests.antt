-- Whole seconds against hours.
use Rattle.std.proofs.Common.{◌≡◌, ℕ, ◌<◌, Bool, true, false, ℤ, pos, neg_ℤ, ◌+ℤ◌, ◌-ℤ◌, ◌*ℤ◌, ◌≤ℤ◌, refl, sym, subst, ◌∙◌, arith, mul-le-mul_right}
use Rattle.std.specs.Prelude.{int_lt}
use Rattle.std.specs.Int.{int_div_euclid}
use Rattle.std.proofs.lemmas.Int.{ints}
use Rattle.exact_fraction.specs.Number.{Rational, den, ratio}
use Rattle.exact_fraction.specs.Order.{◌≤ℚ◌}
use Rattle.exact_fraction.proofs.PublicLaws.{ratios-less_left, ratios-less_right, floors-at_most, floors-above, lowest_terms-positive, tests-not_less}
use Rattle.exact_fraction.proofs.Ring.{at, nat, by, minus, ring, ring_le, parts_le}
use Rattle.rule_meaning.specs.Clock.{hours_of}
use Rattle.table_hulls.specs.Hulls.{second_from, second_up_to}

times_le : (a b : ℤ) (d : ℕ) → a ≤ℤ b → (a *ℤ pos d) ≤ℤ (b *ℤ pos d)
times_le a b d h =
    ring_le (by (at a) (nat d)) (by (at b) (nat d)) (omega (arith, mul-le-mul_right d (parts_le (at a) (at b) h)))

turned : (f : ℤ) (d : ℕ) → pos d *ℤ f ≡ f *ℤ pos d
turned f d = ring (by (nat d) (at f)) (by (at f) (nat d)) (omega arith)

negated : (f : ℤ) (d : ℕ) → neg_ℤ f *ℤ pos d ≡ neg_ℤ (pos d *ℤ f)
negated f d = ring (by (minus (at f)) (nat d)) (minus (by (nat d) (at f))) (omega arith)

at_most : (x y : ℤ) → int_lt y x ≡ false → x ≤ℤ y
at_most x y e = omega (arith, ints, e)

lt_false : (x y : ℤ) → y ≤ℤ x → int_lt x y ≡ false
lt_false x y h = by_test (int_lt x y) refl
  where
    by_test : (b : Bool) → int_lt x y ≡ b → b ≡ false
    by_test true e = absurd (omega (arith, ints, e, h))
    by_test false e = refl

-- ---- the floor and the ceiling of a quotient
-- a multiple of the divisor that is at most n is at most that of the floor
to_floor : (n t : ℤ) (d : ℕ) → 0 < d → (t *ℤ pos d) ≤ℤ n → t ≤ℤ int_div_euclid n (pos d)
to_floor n t d p h = by_test (int_lt (int_div_euclid n (pos d)) t) refl
  where
    by_test : (b : Bool) → int_lt (int_div_euclid n (pos d)) t ≡ b → t ≤ℤ int_div_euclid n (pos d)
    by_test false e = at_most t (int_div_euclid n (pos d)) e
    by_test true e =
        let above : (int_div_euclid n (pos d) +ℤ pos 1) ≤ℤ t = omega (arith, ints, e) in
        let grown = times_le (int_div_euclid n (pos d) +ℤ pos 1) t d above in
        let most = floors-above n d p in
        let same = turned (int_div_euclid n (pos d) +ℤ pos 1) d in
        absurd (omega (arith, ints, grown, most, same, h))

floor_within : (n : ℤ) (d : ℕ) → 0 < d → (int_div_euclid n (pos d) *ℤ pos d) ≤ℤ n
floor_within n d p =
    let least = floors-at_most n d p in
    let same = turned (int_div_euclid n (pos d)) d in
    omega (arith, ints, least, same)

from_ceiling : (n t : ℤ) (d : ℕ) → 0 < d → n ≤ℤ (t *ℤ pos d) → neg_ℤ (int_div_euclid (neg_ℤ n) (pos d)) ≤ℤ t
from_ceiling n t d p h =
    let same = negated t d in
    let also = turned t d in
    let turn = to_floor (neg_ℤ n) (neg_ℤ t) d p (omega (arith, ints, same, also, h)) in
    omega (arith, ints, turn)

ceiling_past : (n : ℤ) (d : ℕ) → 0 < d → n ≤ℤ (neg_ℤ (int_div_euclid (neg_ℤ n) (pos d)) *ℤ pos d)
ceiling_past n d p =
    let least = floors-at_most (neg_ℤ n) d p in
    let same = negated (int_div_euclid (neg_ℤ n) (pos d)) d in
    omega (arith, ints, least, same)

-- ---- hours against a number
hours_at_least : (t : ℤ) (q : Rational) → (q.num *ℤ pos 3600) ≤ℤ (t *ℤ pos (den q)) → q ≤ℚ hours_of t
unfolding hours_of
hours_at_least t q h =
    (tests-not_less (ratio t 3600) q).0 (ratios-less_left t 3600 q (omega arith) ∙ lt_false (t *ℤ pos (den q)) (q.num *ℤ pos 3600) h)

at_least_hours : (t : ℤ) (q : Rational) → q ≤ℚ hours_of t → (q.num *ℤ pos 3600) ≤ℤ (t *ℤ pos (den q))
unfolding hours_of
at_least_hours t q h =
    at_most (q.num *ℤ pos 3600) (t *ℤ pos (den q)) (sym (ratios-less_left t 3600 q (omega arith)) ∙ (tests-not_less (ratio t 3600) q).1 h)

hours_at_most : (t : ℤ) (q : Rational) → (t *ℤ pos (den q)) ≤ℤ (q.num *ℤ pos 3600) → hours_of t ≤ℚ q
unfolding hours_of
hours_at_most t q h =
    (tests-not_less q (ratio t 3600)).0 (ratios-less_right t 3600 q (omega arith) ∙ lt_false (q.num *ℤ pos 3600) (t *ℤ pos (den q)) h)

at_most_hours : (t : ℤ) (q : Rational) → hours_of t ≤ℚ q → (t *ℤ pos (den q)) ≤ℤ (q.num *ℤ pos 3600)
unfolding hours_of
at_most_hours t q h =
    at_most (t *ℤ pos (den q)) (q.num *ℤ pos 3600) (sym (ratios-less_right t 3600 q (omega arith)) ∙ (tests-not_less q (ratio t 3600)).1 h)

-- ---- the first second at or after some hours, and the last one at or before them
pub first_second : (base t : ℤ) (q : Rational) → q ≤ℚ hours_of (t -ℤ base) → second_from base q ≤ℤ t
unfolding second_from
first_second base t q h =
    let up = at_least_hours (t -ℤ base) q h in
    let low = from_ceiling (q.num *ℤ pos 3600) (t -ℤ base) (den q) (lowest_terms-positive q) (omega (arith, ints, up)) in
    omega (arith, ints, low)

pub at_first_second : (base : ℤ) (q : Rational) → q ≤ℚ hours_of (second_from base q -ℤ base)
unfolding second_from
at_first_second base q =
    let g = int_div_euclid (neg_ℤ (q.num *ℤ pos 3600)) (pos (den q)) in
    let past = ceiling_past (q.num *ℤ pos 3600) (den q) (lowest_terms-positive q) in
    let same : (base -ℤ g) -ℤ base ≡ neg_ℤ g = omega (arith, ints) in
    subst (λ t. q ≤ℚ hours_of t) (sym same) (hours_at_least (neg_ℤ g) q (omega (arith, ints, past)))

pub last_second : (base t : ℤ) (q : Rational) → hours_of (t -ℤ base) ≤ℚ q → t ≤ℤ second_up_to base q
unfolding second_up_to
last_second base t q h =
    let down = at_most_hours (t -ℤ base) q h in
    let high = to_floor (q.num *ℤ pos 3600) (t -ℤ base) (den q) (lowest_terms-positive q) (omega (arith, ints, down)) in
    omega (arith, ints, high)

pub at_last_second : (base : ℤ) (q : Rational) → hours_of (second_up_to base q -ℤ base) ≤ℚ q
unfolding second_up_to
at_last_second base q =
    let g = int_div_euclid (q.num *ℤ pos 3600) (pos (den q)) in
    let within = floor_within (q.num *ℤ pos 3600) (den q) (lowest_terms-positive q) in
    let same : (base +ℤ g) -ℤ base ≡ g = omega (arith, ints) in
    subst (λ t. hours_of t ≤ℚ q) (sym same) (hours_at_most g q (omega (arith, ints, within)))
