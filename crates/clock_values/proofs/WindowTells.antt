-- A condition on hours holds at whole seconds as its window says.
use Rattle.std.proofs.Common.{◌≡◌, ℕ, ◌<◌, Bool, true, false, cond, not, Option, Some, None}
use Rattle.std.proofs.Common.{ℤ, pos, neg_ℤ, ◌+ℤ◌, ◌-ℤ◌, ◌*ℤ◌, ◌≤ℤ◌, ◌<ℤ◌, refl, sym, ap, ap₂, ◌∙◌, arith}
use Rattle.std.proofs.Common.{mul-le-mul_right}
use Rattle.std.specs.Prelude.{◌&&◌, ◌||◌, int_lt}
use Rattle.std.specs.Int.{int_div_euclid}
use Rattle.std.specs.Ordering.{int_eq}
use Rattle.std.specs.Cmp.{signed_Decides}
use Rattle.std.proofs.lemmas.Bool.{true≢false}
use Rattle.std.proofs.lemmas.Int.{ints}
use Rattle.exact_fraction.specs.Number.{Rational, den}
use Rattle.exact_fraction.specs.Order.{less, same}
use Rattle.exact_fraction.specs.Operations.{sum_of, difference_of}
use Rattle.exact_fraction.specs.Relations.{relates}
use Rattle.exact_fraction.specs.declared.relation.Relation.{Relation}
use Rattle.exact_fraction.specs.declared.relation.Relation.TheVariants.{Eq, Ne, Lt, Le, Gt, Ge}
use Rattle.exact_fraction.proofs.PublicLaws.{ratios-less_left, ratios-less_right, floors-at_most}
use Rattle.exact_fraction.proofs.PublicLaws.{floors-above, lowest_terms-positive, tests-same_by_less}
use Rattle.exact_fraction.proofs.Ring.{at, nat, by, minus, ring, ring_le, parts_le}
use Rattle.rule_types.specs.declared.condition.Condition.{Condition}
use Rattle.rule_meaning.specs.Clock.{hours_of}
use Rattle.rule_meaning.specs.Condition.{half_of, is_within, time_relates, meets}
use Rattle.clock_values.specs.declared.window.Window.{Window}
use Rattle.clock_values.specs.Windows.{differs, first_second_at, first_second_past, lies_in}
use Rattle.clock_values.specs.Windows.{window_holds, exact_window, turns_at, window_turns}
use Rattle.clock_values.specs.Windows.{half_window, window_of}

-- ---- tests
eq_true : (x y : ℤ) → int_eq x y ≡ true → x ≡ y
eq_true x y = (signed_Decides x y).0

eq_false : (x y : ℤ) → int_eq x y ≡ false → x ≡ y → ⊥
eq_false x y e same = absurd (true≢false (sym ((signed_Decides x y).1 same) ∙ e))

pub eq_is : (x y : ℤ) → x ≡ y → int_eq x y ≡ true
eq_is x y = (signed_Decides x y).1

pub eq_not : (x y : ℤ) → (x ≡ y → ⊥) → int_eq x y ≡ false
eq_not x y h = by_test (int_eq x y) refl
  where
    by_test : (b : Bool) → int_eq x y ≡ b → b ≡ false
    by_test true e = absurd (h (eq_true x y e))
    by_test false e = refl

-- ---- products
times_le : (a b : ℤ) (d : ℕ) → a ≤ℤ b → (a *ℤ pos d) ≤ℤ (b *ℤ pos d)
times_le a b d h =
    ring_le (by (at a) (nat d)) (by (at b) (nat d)) (omega (arith, mul-le-mul_right d (parts_le (at a) (at b) h)))

turned : (f : ℤ) (d : ℕ) → pos d *ℤ f ≡ f *ℤ pos d
turned f d = ring (by (nat d) (at f)) (by (at f) (nat d)) (omega arith)

negated : (f : ℤ) (d : ℕ) → neg_ℤ f *ℤ pos d ≡ neg_ℤ (pos d *ℤ f)
negated f d = ring (by (minus (at f)) (nat d)) (minus (by (nat d) (at f))) (omega arith)

pub lt_true : (x y : ℤ) → x <ℤ y → int_lt x y ≡ true
lt_true x y h = by_test (int_lt x y) refl
  where
    by_test : (b : Bool) → int_lt x y ≡ b → b ≡ true
    by_test true e = refl
    by_test false e = absurd (omega (arith, ints, e, h))

pub lt_false : (x y : ℤ) → y ≤ℤ x → int_lt x y ≡ false
lt_false x y h = by_test (int_lt x y) refl
  where
    by_test : (b : Bool) → int_lt x y ≡ b → b ≡ false
    by_test true e = absurd (omega (arith, ints, e, h))
    by_test false e = refl

-- ---- a whole number against a quotient
past_floor : (n t : ℤ) (d : ℕ) → 0 < d
    → int_lt n (t *ℤ pos d) ≡ not (int_lt t (int_div_euclid n (pos d) +ℤ pos 1))
past_floor n t d p = by_test (int_lt t (int_div_euclid n (pos d) +ℤ pos 1)) refl
  where
    by_test : (b : Bool) → int_lt t (int_div_euclid n (pos d) +ℤ pos 1) ≡ b → int_lt n (t *ℤ pos d) ≡ not b
    by_test true e =
        let below : t ≤ℤ int_div_euclid n (pos d) = omega (arith, ints, e) in
        let grown = times_le t (int_div_euclid n (pos d)) d below in
        let least = floors-at_most n d p in
        let same = turned (int_div_euclid n (pos d)) d in
        lt_false n (t *ℤ pos d) (omega (arith, ints, grown, least, same))
    by_test false e =
        let above : (int_div_euclid n (pos d) +ℤ pos 1) ≤ℤ t = omega (arith, ints, e) in
        let grown = times_le (int_div_euclid n (pos d) +ℤ pos 1) t d above in
        let most = floors-above n d p in
        let same = turned (int_div_euclid n (pos d) +ℤ pos 1) d in
        lt_true n (t *ℤ pos d) (omega (arith, ints, grown, most, same))

below_ceiling : (n t : ℤ) (d : ℕ) → 0 < d
    → int_lt (t *ℤ pos d) n ≡ int_lt t (neg_ℤ (int_div_euclid (neg_ℤ n) (pos d)))
below_ceiling n t d p = by_test (int_lt t (neg_ℤ (int_div_euclid (neg_ℤ n) (pos d)))) refl
  where
    by_test : (b : Bool) → int_lt t (neg_ℤ (int_div_euclid (neg_ℤ n) (pos d))) ≡ b → int_lt (t *ℤ pos d) n ≡ b
    by_test true e =
        let g = int_div_euclid (neg_ℤ n) (pos d) in
        let below : t ≤ℤ neg_ℤ (g +ℤ pos 1) = omega (arith, ints, e) in
        let grown = times_le t (neg_ℤ (g +ℤ pos 1)) d below in
        let most = floors-above (neg_ℤ n) d p in
        let same = negated (g +ℤ pos 1) d in
        lt_true (t *ℤ pos d) n (omega (arith, ints, grown, most, same))
    by_test false e =
        let g = int_div_euclid (neg_ℤ n) (pos d) in
        let above : neg_ℤ g ≤ℤ t = omega (arith, ints, e) in
        let grown = times_le (neg_ℤ g) t d above in
        let least = floors-at_most (neg_ℤ n) d p in
        let same = negated g d in
        lt_false (t *ℤ pos d) n (omega (arith, ints, grown, least, same))

-- ---- hours
pub hours_below : (t : ℤ) (q : Rational) → less (hours_of t) q ≡ int_lt t (first_second_at q)
unfolding hours_of first_second_at
hours_below t q =
    ratios-less_left t 3600 q (omega arith)
    ∙ below_ceiling (q.num *ℤ pos 3600) t (den q) (lowest_terms-positive q)

pub hours_above : (t : ℤ) (q : Rational) → less q (hours_of t) ≡ not (int_lt t (first_second_past q))
unfolding hours_of first_second_past
hours_above t q =
    ratios-less_right t 3600 q (omega arith)
    ∙ past_floor (q.num *ℤ pos 3600) t (den q) (lowest_terms-positive q)

-- ---- relations
both_sides : (a b : Bool) → (not a && not (not b)) ≡ (not a && b)
both_sides true b = refl
both_sides false true = refl
both_sides false false = refl

same_tells : (t : ℤ) (q : Rational)
    → same (hours_of t) q ≡ lies_in (first_second_at q) (Some (first_second_past q)) t
same_tells t q =
    tests-same_by_less (hours_of t) q
    ∙ ap₂ (λ a b. not a && not b) (hours_below t q) (hours_above t q)
    ∙ both_sides (int_lt t (first_second_at q)) (int_lt t (first_second_past q))

open_end : (a : Bool) → a ≡ not (not a && true)
open_end true = refl
open_end false = refl

and_true : (a : Bool) → a ≡ (a && true)
and_true true = refl
and_true false = refl

exact_tells : (r : Relation) (t : ℤ) (q : Rational)
    → relates r (hours_of t) q ≡ window_holds (exact_window r q) t
unfolding window_holds exact_window
exact_tells Eq t q = same_tells t q
exact_tells Ne t q = ap not (same_tells t q)
exact_tells Lt t q = hours_below t q ∙ open_end (int_lt t (first_second_at q))
exact_tells Le t q = ap not (hours_above t q ∙ and_true (not (int_lt t (first_second_past q))))
exact_tells Gt t q = hours_above t q ∙ and_true (not (int_lt t (first_second_past q)))
exact_tells Ge t q = ap not (hours_below t q) ∙ and_true (not (int_lt t (first_second_at q)))

within_tells : (t : ℤ) (q half : Rational)
    → is_within (hours_of t) q half
    ≡ lies_in (first_second_at (difference_of q half)) (Some (first_second_at (sum_of q half))) t
unfolding is_within
within_tells t q half =
    ap₂ (λ a b. not a && b) (hours_below t (difference_of q half)) (hours_below t (sum_of q half))

half_tells : (r : Relation) (t : ℤ) (q step : Rational)
    → time_relates r (hours_of t) q step ≡ window_holds (half_window r q (half_of step)) t
unfolding time_relates half_window window_holds
half_tells Eq t q step = within_tells t q (half_of step)
half_tells Ne t q step = ap not (within_tells t q (half_of step))
half_tells Lt t q step = exact_tells Lt t q
half_tells Le t q step = exact_tells Le t q
half_tells Gt t q step = exact_tells Gt t q
half_tells Ge t q step = exact_tells Ge t q

pub hours_tell : (c : Condition) (step q : Rational) (t : ℤ)
    → meets c step (hours_of t) q ≡ window_holds (window_of c step q) t
unfolding meets window_of
hours_tell c step q t = by_half c.half_step
  where
    by_half : (b : Bool)
        → cond b (time_relates c.rel (hours_of t) q step) (relates c.rel (hours_of t) q)
        ≡ window_holds (cond b (half_window c.rel q (half_of step)) (exact_window c.rel q)) t
    by_half true = half_tells c.rel t q step
    by_half false = exact_tells c.rel t q

-- ---- where a window turns
turns_open : (low t : ℤ) → differs (not (int_lt t low) && true) (not (int_lt (t -ℤ pos 1) low) && true) ≡ int_eq t low
turns_open low t = by_test (int_lt t low) (int_lt (t -ℤ pos 1) low) (int_eq t low) refl refl refl
  where
    by_test : (a b e : Bool) → int_lt t low ≡ a → int_lt (t -ℤ pos 1) low ≡ b → int_eq t low ≡ e
        → differs (not a && true) (not b && true) ≡ e
    by_test true true true p q r = absurd (omega (arith, ints, p, eq_true t low r))
    by_test true true false p q r = refl
    by_test true false e p q r = absurd (omega (arith, ints, p, q))
    by_test false true true p q r = refl
    by_test false true false p q r = absurd (eq_false t low r (omega (arith, ints, p, q)))
    by_test false false true p q r = absurd (omega (arith, ints, q, eq_true t low r))
    by_test false false false p q r = refl

turns_closed : (low high t : ℤ)
    → differs (not (int_lt t low) && int_lt t high) (not (int_lt (t -ℤ pos 1) low) && int_lt (t -ℤ pos 1) high)
    ≡ (int_lt low high && (int_eq t low || int_eq t high))
turns_closed low high t = by_order (int_lt low high) refl
  where
    by_order : (b : Bool) → int_lt low high ≡ b
        → differs (not (int_lt t low) && int_lt t high) (not (int_lt (t -ℤ pos 1) low) && int_lt (t -ℤ pos 1) high)
        ≡ (b && (int_eq t low || int_eq t high))
    by_order false e = empty (int_lt t low) (int_lt t high) (int_lt (t -ℤ pos 1) low) (int_lt (t -ℤ pos 1) high) refl refl refl refl
      where
        empty : (a b c d : Bool) → int_lt t low ≡ a → int_lt t high ≡ b → int_lt (t -ℤ pos 1) low ≡ c → int_lt (t -ℤ pos 1) high ≡ d
            → differs (not a && b) (not c && d) ≡ false
        empty false true c d p q r s = absurd (omega (arith, ints, e, p, q))
        empty a b false true p q r s = absurd (omega (arith, ints, e, r, s))
        empty true b true d p q r s = refl
        empty true b false false p q r s = refl
        empty false false true d p q r s = refl
        empty false false false false p q r s = refl
    by_order true e = inside (int_lt t low) (int_lt (t -ℤ pos 1) low) (int_lt t high) (int_lt (t -ℤ pos 1) high) refl refl refl refl
      where
        inside : (a b c d : Bool) → int_lt t low ≡ a → int_lt (t -ℤ pos 1) low ≡ b → int_lt t high ≡ c → int_lt (t -ℤ pos 1) high ≡ d
            → differs (not a && c) (not b && d) ≡ (int_eq t low || int_eq t high)
        inside true true c d p q r s = sym (ap₂ (λ x y. x || y) (eq_not t low (λ k. absurd (omega (arith, ints, p, k)))) (eq_not t high (λ k. absurd (omega (arith, ints, e, p, k)))))
        inside true false c d p q r s = absurd (omega (arith, ints, p, q))
        inside false true true true p q r s = sym (ap (λ x. x || int_eq t high) (eq_is t low (omega (arith, ints, p, q))))
        inside false true true false p q r s = absurd (omega (arith, ints, r, s))
        inside false true false d p q r s = absurd (omega (arith, ints, e, q, r))
        inside false false true true p q r s = sym (ap₂ (λ x y. x || y) (eq_not t low (λ k. absurd (omega (arith, ints, q, k)))) (eq_not t high (λ k. absurd (omega (arith, ints, r, k)))))
        inside false false true false p q r s = absurd (omega (arith, ints, r, s))
        inside false false false true p q r s = sym (ap₂ (λ x y. x || y) (eq_not t low (λ k. absurd (omega (arith, ints, q, k)))) (eq_is t high (omega (arith, ints, r, s))))
        inside false false false false p q r s = sym (ap₂ (λ x y. x || y) (eq_not t low (λ k. absurd (omega (arith, ints, q, k)))) (eq_not t high (λ k. absurd (omega (arith, ints, s, k)))))

differs_not : (a b : Bool) → differs (not a) (not b) ≡ differs a b
differs_not true true = refl
differs_not true false = refl
differs_not false true = refl
differs_not false false = refl

turns_end : (low t : ℤ) (high : Option ℤ)
    → differs (lies_in low high t) (lies_in low high (t -ℤ pos 1)) ≡ turns_at low high t
turns_end low t None = turns_open low t
turns_end low t (Some high) = turns_closed low high t

pub turns : (w : Window) (t : ℤ)
    → differs (window_holds w t) (window_holds w (t -ℤ pos 1)) ≡ window_turns w t
unfolding window_holds window_turns
turns w t = by_side w.inside
  where
    by_side : (b : Bool)
        → differs (cond b (lies_in w.low w.high t) (not (lies_in w.low w.high t)))
        (cond b (lies_in w.low w.high (t -ℤ pos 1)) (not (lies_in w.low w.high (t -ℤ pos 1))))
        ≡ turns_at w.low w.high t
    by_side true = turns_end w.low t w.high
    by_side false =
        differs_not (lies_in w.low w.high t) (lies_in w.low w.high (t -ℤ pos 1)) ∙ turns_end w.low t w.high
