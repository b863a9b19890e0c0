-- How far links move, in billionths.
use Rattle.std.proofs.Common.{◌≡◌, ℕ, zero as nothing, suc, ◌+◌, ◌*◌, ◌/◌, ◌^◌, ◌<◌, ◌≤◌, ℤ, pos, negsuc, ◌+ℤ◌, ◌-ℤ◌, ◌*ℤ◌, ◌≤ℤ◌, ◌<ℤ◌, Bool, true, false, cond, Ok, Some, inl, inr, refl, sym, ap, subst, ◌∙◌, arith, mul-pos, mul-le-mul_right}
use Rattle.std.specs.Prelude.{IsTrue, unsigned_abs}
use Rattle.std.specs.Int.{◌∣◌}
use Rattle.std.proofs.lemmas.Int.{ints, to_z-of_z}
use Rattle.std.specs.Int.{w64, w128}
use Rattle.std.proofs.Common.{SFits, to_z, of_z}
use Rattle.std.proofs.lemmas.Bool.Decides.{nat_tests}
use Rattle.std.proofs.Math.Nat.{le_of_dvd, div-lt_iff_lt-mul, dvd_of_mod-eq-zero, div-mul_cancel}
use Rattle.exact_fraction.specs.Number.{Rational, den, ratio, gcd, last_remainder, cancelled, whole, zero, one, fits, IsLowest, IsNumber}
use Rattle.exact_fraction.specs.Order.{◌≤ℚ◌, ◌<ℚ◌, ◌=ℚ◌, less, greater_of, lesser_of}
use Rattle.exact_fraction.specs.Operations.{sum_of, difference_of, quotient_of, quotient_parts, round9_of, nearest_whole}
use Rattle.exact_fraction.specs.Checked.{made, checked}
use Rattle.exact_fraction.proofs.PublicLaws.{lowest_terms-divides, lowest_terms-positive, lowest_terms-unique, lowest_terms-of_sum, ratios-at_most, ratios-numerators_at_most, common_denominators-sum_fits, common_denominators-difference_fits, rounding-of_ratio, rounding-at_most, rounding-divides, tells-less, tells-fitting, tells-checked, order-transitive, order-antisymmetric, order-below_at_most, order-at_most_below, order-same_is_at_most, sums-at_most, sums-commutes, sums-with_zero, sums-taken_at_most, sums-difference_at_most, tests-less, tests-not_less}
use Rattle.rule_types.specs.WellFormed.{IsRate, has_rate}
use Rattle.rule_meaning.specs.Movement.{reach, towards, moved}
use Rattle.trace_replay.specs.internal.Moving.{IsReach, IsOnItsWay, billionths_of}

-- ---- the signs of numbers
pub num_least : (q : Rational) → zero ≤ℚ q → pos 0 ≤ℤ q.num
unfolding whole den
num_least q h = omega (arith, ints, h.le)

pub num_above : (q : Rational) → zero <ℚ q → pos 0 <ℤ q.num
unfolding whole den
num_above q h = omega (arith, ints, h.lt)

pub num_most : (q : Rational) → q ≤ℚ one → q.num ≤ℤ pos (den q)
unfolding whole den
num_most q h = omega (arith, ints, h.le)

-- ---- the reach
reach_by : (n : ℤ) (d : ℕ) (r : ℤ) (e : ℕ) → 0 < d → pos 0 ≤ℤ n → pos 0 <ℤ r
    → round9_of (quotient_parts n d r e) ≡ ratio (pos (billionths_of (unsigned_abs n * e) (d * unsigned_abs r))) 1000000000
unfolding quotient_parts nearest_whole
reach_by (pos g) d (pos nothing) e p least above = absurd (omega (arith, ints, above))
reach_by (pos g) d (pos (suc m)) e p least above = rounding-of_ratio (pos g *ℤ pos e) (d * suc m) (mul-pos p (omega arith))
reach_by (pos g) d (negsuc m) e p least above = absurd (omega (arith, ints, above))
reach_by (negsuc g) d r e p least above = absurd (omega (arith, ints, least))

pub reach_is : (gap rate : Rational) (part all : ℕ) → zero ≤ℚ gap → zero <ℚ rate
    → part ≡ unsigned_abs gap.num * den rate → all ≡ den gap * unsigned_abs rate.num
    → reach gap rate ≡ ratio (pos (billionths_of part all)) 1000000000
unfolding reach quotient_of
reach_is gap rate part all least above part_is all_is =
    reach_by gap.num (den gap) rate.num (den rate) (lowest_terms-positive gap) (num_least gap least) (num_above rate above)
    ∙ sym (λ i. ratio (pos (billionths_of (part_is i) (all_is i))) 1000000000)

cross : (n r : ℤ) (d e : ℕ) → pos 0 ≤ℤ n → (n *ℤ pos e) <ℤ (r *ℤ pos d) → unsigned_abs n * e < d * unsigned_abs r
cross (pos g) (pos m) d e least h = omega (arith, ints, h)
cross (pos g) (negsuc m) d e least h = absurd (omega (arith, ints, h))
cross (negsuc g) r d e least h = absurd (omega (arith, ints, least))

pub part_below : (gap rate : Rational) → zero ≤ℚ gap → gap <ℚ rate → unsigned_abs gap.num * den rate < den gap * unsigned_abs rate.num
part_below gap rate least below = cross gap.num rate.num (den gap) (den rate) (num_least gap least) below.lt

pub count_most : (part all : ℕ) → part < all → billionths_of part all ≤ 1000000000
count_most part all below =
    let lower : (2 * (part * 1000000000) + all) / (2 * all) < 1000000001 =
    (div-lt_iff_lt-mul {k = 2 * all} {x = 2 * (part * 1000000000) + all} {y = 1000000001} (omega (arith, below))).1 (omega (arith, below)) in
    omega (arith, lower)

pub rate_small : (rate : Rational) → IsRate rate → den rate ≤ 1000000000
rate_small rate h = le_of_dvd {m = den rate} {n = 1000000000} (omega arith) (dvd_of_mod-eq-zero (den rate) h.exact.divides)

-- ---- from 0 to 1, in billionths
none_is_zero : ratio (pos 0) 1000000000 ≡ zero
unfolding ratio gcd last_remainder cancelled whole
none_is_zero = refl

all_is_one : ratio (pos 1000000000) 1000000000 ≡ one
unfolding ratio gcd last_remainder cancelled whole
all_is_one = refl

zero_rounded : round9_of zero ≡ zero
unfolding round9_of nearest_whole whole den ratio gcd last_remainder cancelled
zero_rounded = refl

one_rounded : round9_of one ≡ one
unfolding round9_of nearest_whole whole den ratio gcd last_remainder cancelled
one_rounded = refl

pub is_reach : (count : ℕ) → count ≤ 1000000000 → IsReach (ratio (pos count) 1000000000)
is_reach count small = record {
  least = subst (λ q. q ≤ℚ ratio (pos count) 1000000000) none_is_zero (ratios-numerators_at_most (pos 0) (pos count) 1000000000 (omega arith) (omega (arith, ints)));
  most = subst (λ q. ratio (pos count) 1000000000 ≤ℚ q) all_is_one (ratios-numerators_at_most (pos count) (pos 1000000000) 1000000000 (omega arith) (omega (arith, ints, small)));
  exact = lowest_terms-divides (pos count) 1000000000 (omega arith);
}

pub rounded_reach : (y : Rational) → zero ≤ℚ y → y ≤ℚ one → IsReach (round9_of y)
rounded_reach y least most = record {
  least = subst (λ q. q ≤ℚ round9_of y) zero_rounded (rounding-at_most zero y least);
  most = subst (λ q. round9_of y ≤ℚ q) one_rounded (rounding-at_most y one most);
  exact = rounding-divides y;
}

small_fits : (n : ℤ) (d : ℕ) → d ≤ 1000000000 → pos 0 ≤ℤ n → n ≤ℤ pos d → (unsigned_abs n < 2 ^ 63) × (d < 2 ^ 63)
small_fits (pos n) d small least most = (omega (arith, ints, most), omega arith)
small_fits (negsuc n) d small least most = absurd (omega (arith, ints, least))

pub reach_fits : (q : Rational) → IsReach q → IsTrue (fits q)
unfolding fits
reach_fits q h =
    let sizes = small_fits q.num (den q) (le_of_dvd {m = den q} {n = 1000000000} (omega arith) h.exact) (num_least q h.least) (num_most q h.most) in
    grind (arith, nat_tests)

pub checked_is : (q : Rational) → IsTrue (fits q) → checked q ≡ Ok q
checked_is q h = elim (tells-checked q) [
  | inl fine ↦ fine.1
  | inr over ↦ absurd (not_both (fits q) h over.0)
]
  where
    not_both : (b : Bool) → IsTrue b → b ≡ false → ⊥
    not_both true h e = grind arith
    not_both false h e = grind arith

pub made_is : (count : ℕ) → count ≤ 1000000000 → made (pos count) (pos 1000000000) ≡ Some (ratio (pos count) 1000000000)
unfolding made
made_is count small = elim (tells-fitting (ratio (pos count) 1000000000)) [
  | inl fine ↦ fine.1
  | inr over ↦ absurd (not_both (fits (ratio (pos count) 1000000000)) (reach_fits (ratio (pos count) 1000000000) (is_reach count small)) over.0)
]
  where
    not_both : (b : Bool) → IsTrue b → b ≡ false → ⊥
    not_both true h e = grind arith
    not_both false h e = grind arith

-- ---- sums and differences of two such numbers
bounds : (n m : ℤ) (d e j k : ℕ) → pos 0 ≤ℤ n → n ≤ℤ pos d → pos 0 ≤ℤ m → m ≤ℤ pos e → 1000000000 ≡ k * d → 1000000000 ≡ j * e
    → (unsigned_abs (n *ℤ pos k +ℤ m *ℤ pos j) < 2 ^ 63) × (unsigned_abs (n *ℤ pos k -ℤ m *ℤ pos j) < 2 ^ 63)
bounds (pos a) (pos b) d e j k n0 n1 m0 m1 kd je =
    let u : a * k ≤ d * k = mul-le-mul_right k (omega (arith, ints, n1)) in
    let v : b * j ≤ e * j = mul-le-mul_right j (omega (arith, ints, m1)) in
    let u' : a * k ≤ 1000000000 = omega (arith, u, kd) in
    let v' : b * j ≤ 1000000000 = omega (arith, v, je) in
    (sum_small (a * k) (b * j) u' v', difference_small (a * k) (b * j) u' v')
  where
    sum_small : (x y : ℕ) → x ≤ 1000000000 → y ≤ 1000000000 → unsigned_abs (pos x +ℤ pos y) < 2 ^ 63
    sum_small x y p q = omega (arith, ints, p, q)

    difference_small : (x y : ℕ) → x ≤ 1000000000 → y ≤ 1000000000 → unsigned_abs (pos x -ℤ pos y) < 2 ^ 63
    difference_small x y p q = omega (arith, ints, p, q)
bounds (pos a) (negsuc b) d e j k n0 n1 m0 m1 kd je = absurd (omega (arith, ints, m0))
bounds (negsuc a) m d e j k n0 n1 m0 m1 kd je = absurd (omega (arith, ints, n0))

factor : (d : ℕ) → d ∣ 1000000000 → 1000000000 ≡ 1000000000 / d * d
factor d h = sym (div-mul_cancel d h)

pub sum_fits : (p q : Rational) → IsReach p → IsReach q → IsTrue (fits (sum_of p q))
sum_fits p q h g =
    let k : 1000000000 ≡ 1000000000 / den p * den p = factor (den p) h.exact in
    let j : 1000000000 ≡ 1000000000 / den q * den q = factor (den q) g.exact in
    common_denominators-sum_fits p q (1000000000 / den q) (1000000000 / den p) 1000000000 (omega arith) k j
    (bounds p.num q.num (den p) (den q) (1000000000 / den q) (1000000000 / den p) (num_least p h.least) (num_most p h.most) (num_least q g.least) (num_most q g.most) k j).0
    (omega arith)

pub difference_fits : (p q : Rational) → IsReach p → IsReach q → IsTrue (fits (difference_of p q))
difference_fits p q h g =
    let k : 1000000000 ≡ 1000000000 / den p * den p = factor (den p) h.exact in
    let j : 1000000000 ≡ 1000000000 / den q * den q = factor (den q) g.exact in
    common_denominators-difference_fits p q (1000000000 / den q) (1000000000 / den p) 1000000000 (omega arith) k j
    (bounds p.num q.num (den p) (den q) (1000000000 / den q) (1000000000 / den p) (num_least p h.least) (num_most p h.most) (num_least q g.least) (num_most q g.most) k j).1
    (omega arith)

-- ---- a gap that is as long as the rate
one_is : ratio (pos 1) 1 ≡ one
unfolding ratio gcd last_remainder cancelled whole
one_is = refl

at_least_one : (n : ℤ) (d : ℕ) (r : ℤ) (e : ℕ) → 0 < d → pos 0 <ℤ r → (r *ℤ pos d) ≤ℤ (n *ℤ pos e) → one ≤ℚ quotient_parts n d r e
unfolding quotient_parts
at_least_one n d (pos nothing) e p above h = absurd (omega (arith, ints, above))
at_least_one n d (pos (suc m)) e p above h =
    subst (λ q. q ≤ℚ ratio (n *ℤ pos e) (d * suc m)) one_is
    (ratios-at_most (pos 1) (n *ℤ pos e) 1 (d * suc m) (omega arith) (mul-pos p (omega arith)) (omega (arith, ints, h)))
at_least_one n d (negsuc m) e p above h = absurd (omega (arith, ints, above))

one_reached : (gap rate : Rational) → zero <ℚ rate → rate ≤ℚ gap → one ≤ℚ reach gap rate
unfolding reach quotient_of
one_reached gap rate above long =
    subst (λ q. q ≤ℚ round9_of (quotient_parts gap.num (den gap) rate.num (den rate))) one_rounded
    (rounding-at_most one (quotient_parts gap.num (den gap) rate.num (den rate))
    (at_least_one gap.num (den gap) rate.num (den rate) (lowest_terms-positive gap) (num_above rate above) long.le))

-- a number past a target, or at it, gives the target
least_past : (s t : Rational) → IsLowest s → IsLowest t → t ≤ℚ s → lesser_of s t ≡ t
least_past s t h g past = elim (tells-less t s) [
  | inl below ↦ rw below.0 refl
  | inr above ↦ rw above.0 (lowest_terms-unique s t h g (order-antisymmetric s t above.1 past))
]

most_past : (s t : Rational) → IsLowest s → IsLowest t → s ≤ℚ t → greater_of s t ≡ t
most_past s t h g past = elim (tells-less s t) [
  | inl below ↦ rw below.0 refl
  | inr above ↦ rw above.0 (lowest_terms-unique s t h g (order-antisymmetric s t past above.1))
]

greater_is : (p q : Rational) → p <ℚ q → greater_of p q ≡ q
greater_is p q h = let is : less p q ≡ true = (tests-less p q).1 h in rw is refl

lesser_is : (p q : Rational) → q <ℚ p → lesser_of p q ≡ q
lesser_is p q h = let is : less q p ≡ true = (tests-less q p).1 h in rw is refl

sum_past : (r m : Rational) → zero ≤ℚ r → one ≤ℚ m → one ≤ℚ sum_of r m
sum_past r m least h =
    let same : zero_sum =ℚ m = sums_zero in
    order-transitive one m (sum_of r m) h
    (order-transitive m zero_sum (sum_of r m) (order-same_is_at_most zero_sum m same).1 (sums-at_most zero r m least))
  where
    zero_sum : Rational
    zero_sum = sum_of zero m

    sums_zero : sum_of zero m =ℚ m
    sums_zero = subst (λ q. q =ℚ m) (sums-commutes m zero) (sums-with_zero m)

nothing_left : difference_of one one ≡ zero
unfolding difference_of ratio gcd last_remainder cancelled whole den
nothing_left = refl

difference_past : (r m : Rational) → r ≤ℚ one → one ≤ℚ m → difference_of r m ≤ℚ zero
difference_past r m most h =
    order-transitive (difference_of r m) (difference_of r one) zero (sums-taken_at_most one m r h)
    (subst (λ q. difference_of r one ≤ℚ q) nothing_left (sums-difference_at_most r one one most))

-- a link that could move 1 or more comes to its target
pub all_the_way : (y t m : Rational) → IsReach (round9_of y) → IsLowest t → zero ≤ℚ t → t ≤ℚ one → one ≤ℚ m → towards y t m ≡ t
unfolding towards
all_the_way y t m h lowest least most far = elim (tells-less y t) [
  | inl up ↦ rw up.0
      (let s : Rational = sum_of (round9_of y) m in
      let past : t ≤ℚ s = order-transitive t one s most (sum_past (round9_of y) m h.least far) in
      ap (λ g. lesser_of g t) (greater_is y s (order-below_at_most y t s up.1 past))
      ∙ least_past s t (lowest_terms-of_sum (round9_of y) m).0 lowest past)
  | inr not_up ↦ rw not_up.0
      (elim (tells-less t y) [
        | inl down ↦ rw down.0
            (let s : Rational = difference_of (round9_of y) m in
            let past : s ≤ℚ t = order-transitive s zero t (difference_past (round9_of y) m h.most far) least in
            ap (λ l. greater_of l t) (lesser_is y s (order-at_most_below s t y past down.1))
            ∙ most_past s t (lowest_terms-of_sum (round9_of y) m).1 lowest past)
        | inr level ↦ rw level.0 refl
      ])
]

pub far_moved : (rate gap y t : Rational) → zero <ℚ rate → rate ≤ℚ gap → IsOnItsWay rate y t → IsTrue (has_rate rate) → IsNumber t
    → towards y t (reach gap rate) ≡ t
far_moved rate gap y t above long h rated held =
    all_the_way y t (reach gap rate) (rounded_reach y h.setting_least (h.setting_most rated)) held.lowest h.target_least (h.target_most rated)
    (one_reached gap rate above long)

-- ---- what the code answers
pub made_of : (count : ℤ) → pos 0 ≤ℤ count → count ≤ℤ pos 1000000000 → made count (pos 1000000000) ≡ Some (ratio count 1000000000)
made_of (pos count) least most = made_is count (omega (arith, ints, most))
made_of (negsuc count) least most = absurd (omega (arith, ints, least))

pub size_is : (n x : ℤ) → SFits w64 n → n ≡ x → pos 0 ≤ℤ x → unsigned_abs x < 2 ^ 63
size_is (pos n) x f is least = let small : n < 2 ^ 63 = omega (arith, f.sfits) in subst (λ z. unsigned_abs z < 2 ^ 63) is small
size_is (negsuc n) x f is least = let wrong : pos 0 ≤ℤ negsuc n = subst (λ z. pos 0 ≤ℤ z) (sym is) least in absurd (omega (arith, ints, wrong))

pub product_is : (r : ℕ) (n m x y : ℤ) → SFits w64 n → SFits w64 m → n ≡ x → m ≡ y
    → r ≡ unsigned_abs (to_z w64 (of_z w64 n)) * unsigned_abs (to_z w64 (of_z w64 m)) → r ≡ unsigned_abs x * unsigned_abs y
product_is r n m x y f g n_is m_is is =
    is ∙ (λ i. unsigned_abs (to_z-of_z w64 n f i) * unsigned_abs (to_z-of_z w64 m g i)) ∙ (λ i. unsigned_abs (n_is i) * unsigned_abs (m_is i))

pub part_small : (r a b : ℕ) → r ≡ a * b → a < 2 ^ 63 → b ≤ 1000000000 → r < 2 ^ 95
part_small r a b is small few = let h : b * a ≤ 1000000000 * a = mul-le-mul_right a few in omega (arith, is, small, h)

pub whole_small : (r a b : ℕ) → r ≡ a * b → a < 2 ^ 63 → b < 2 ^ 63 → r < 2 ^ 126
whole_small r a b is small few =
    let most : b ≤ 2 ^ 63 = omega (arith, few) in
    let h : b * a ≤ 2 ^ 63 * a = mul-le-mul_right a most in omega (arith, is, small, h)

pub counted : (z : ℤ) (n : ℕ) → SFits w128 z → z ≡ pos n → n ≤ 1000000000
    → (pos 0 ≤ℤ to_z w128 (of_z w128 z)) × (to_z w128 (of_z w128 z) ≤ℤ pos 1000000000)
counted z n fits is small =
    let same : to_z w128 (of_z w128 z) ≡ pos n = to_z-of_z w128 z fits ∙ is in
    (rw same (omega (arith, ints)), rw same (omega (arith, ints, small)))

-- ---- the two ways
abbrev is_rated : Rational → Rational → Rational → Rational → Rational
is_rated rate gap y t = towards y t (reach gap rate)

pub far_target : (rate gap y t : Rational) → less zero rate ≡ true → less gap rate ≡ false → IsOnItsWay rate y t → IsNumber t → t ≡ moved rate gap y t
unfolding moved
far_target rate gap y t rated far h held =
    sym (ap (λ b. cond b (is_rated rate gap y t) t) rated
    ∙ far_moved rate gap y t ((tests-less zero rate).0 rated) ((tests-not_less gap rate).0 far) h rated held)
