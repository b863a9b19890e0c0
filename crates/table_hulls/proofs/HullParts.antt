-- An interval and a range of seconds have a piece between any two ends round a member.
use Rattle.std.proofs.Common.{◌≡◌, Bool, true, false, cond, Option, Some, None, ℤ, ◌-ℤ◌, ◌≤ℤ◌, refl, ap₂, subst, ◌∙◌, arith}
use Rattle.std.specs.Prelude.{IsTrue, int_le}
use Rattle.std.proofs.lemmas.Bool.{and_parts, and_from}
use Rattle.std.proofs.lemmas.Int.{ints}
use Rattle.exact_fraction.specs.Number.{Rational}
use Rattle.exact_fraction.specs.Order.{◌≤ℚ◌, less}
use Rattle.exact_fraction.proofs.PublicLaws.{tests-not_less, order-reflexive, order-transitive}
use Rattle.interval_sets.specs.Intervals.{lies_in, is_above, is_below, IsAbove, IsBelow, later_low, earlier_high, has_member}
use Rattle.interval_sets.specs.declared.interval.Bound.{Bound}
use Rattle.interval_sets.specs.declared.interval.Bound.TheVariants as end
use Rattle.interval_sets.specs.declared.interval.Interval.{Interval}
use Rattle.interval_sets.proofs.PublicLaws.{ends-above, ends-below, ends-later_low, ends-earlier_high, intervals-inside, normal_form-not_empty}
use Rattle.rule_meaning.specs.Clock.{hours_of}
use Rattle.rule_meaning.proofs.PublicLaws.{clock_order-hours}
use Rattle.table_hulls.specs.Hulls.{interval_part, second_from, second_up_to, first_second_at, last_second_at, hours_between, seconds_part}
use Rattle.table_hulls.proofs.HullHolds.{HasX}
use Rattle.table_hulls.proofs.SecondTests.{first_second, at_first_second, last_second, at_last_second}

-- ---- intervals
low_by : (c : Rational) (m : Bool) (a : Rational) (b : Bool) → less c a ≡ b → (l : Rational) × (n : Bool) × (cond b (end.Bound a false) (end.Bound c m) ≡ end.Bound l n) × (a ≤ℚ l)
low_by c m a true is = (a, false, refl, order-reflexive a)
low_by c m a false is = (c, m, refl, (tests-not_less c a).0 is)

low_is : (low : Bound) (a : Rational) → (l : Rational) × (n : Bool) × (later_low low (end.Bound a false) ≡ end.Bound l n) × (a ≤ℚ l)
low_is end.NoBound a = (a, false, refl, order-reflexive a)
low_is (end.Bound c true) a = low_by c true a (less c a) refl
low_is (end.Bound c false) a = low_by c false a (less c a) refl

high_by : (c : Rational) (m : Bool) (a : Rational) (b : Bool) → less a c ≡ b → (h : Rational) × (n : Bool) × (cond b (end.Bound a false) (end.Bound c m) ≡ end.Bound h n) × (h ≤ℚ a)
high_by c m a true is = (a, false, refl, order-reflexive a)
high_by c m a false is = (c, m, refl, (tests-not_less a c).0 is)

high_is : (high : Bound) (a : Rational) → (h : Rational) × (n : Bool) × (earlier_high high (end.Bound a false) ≡ end.Bound h n) × (h ≤ℚ a)
high_is end.NoBound a = (a, false, refl, order-reflexive a)
high_is (end.Bound c true) a = high_by c true a (less a c) refl
high_is (end.Bound c false) a = high_by c false a (less a c) refl

abbrev ends_piece : Bound → Bound → Interval
ends_piece low high = record { low = low; high = high }

-- the overlap with two ends round x has x
overlap_has : (over : Interval) (low high : Bound) (x : Rational) → IsTrue (lies_in over x) → IsAbove low x → IsBelow high x → IsTrue (lies_in (record { low = later_low over.low low; high = earlier_high over.high high }) x)
overlap_has over low high x h above below =
    let parts = and_parts (is_above over.low x) (is_below over.high x) h in
    and_from (is_above (later_low over.low low) x) (is_below (earlier_high over.high high) x)
    (ends-later_low over.low low x ∙ and_from (is_above over.low x) (is_above low x) parts.0 ((ends-above low x).1 above))
    (ends-earlier_high over.high high x ∙ and_from (is_below over.high x) (is_below high x) parts.1 ((ends-below high x).1 below))

piece_by : (piece : Interval) (b : Bool) → b ≡ true → cond {A = Option Interval} b (Some piece) None ≡ Some piece
piece_by piece true e = refl
piece_by piece false e = absurd (grind arith)

piece_is : (over : Interval) (low high : Bound) (x : Rational) → IsTrue (lies_in over x) → IsAbove low x → IsBelow high x → interval_part over low high ≡ Some (record { low = later_low over.low low; high = earlier_high over.high high })
unfolding interval_part
piece_is over low high x h above below =
    let piece : Interval = record { low = later_low over.low low; high = earlier_high over.high high } in
    piece_by piece (has_member (later_low over.low low) (earlier_high over.high high)) ((normal_form-not_empty piece).1 (x, overlap_has over low high x h above below))

pub interval_has : (over : Interval) (x : Rational) → IsTrue (lies_in over x) → HasX (interval_part over) x
interval_has over x h = record {
  between = λ a b from to. (
      let low = low_is over.low a in
      let high = high_is over.high b in
      let inner = (intervals-inside (record { low = later_low over.low (end.Bound a false); high = earlier_high over.high (end.Bound b false) }) x).0 (overlap_has over (end.Bound a false) (end.Bound b false) x h from to) in
      record {
        low = low.0;
        low_out = low.1;
        high = high.0;
        high_out = high.1;
        piece = piece_is over (end.Bound a false) (end.Bound b false) x h from to ∙ ap₂ (λ u v. Some (ends_piece u v)) low.2 high.2;
        from = low.3;
        to = high.3;
        above = subst (λ u. IsAbove u x) low.2 inner.above;
        below = subst (λ u. IsBelow u x) high.2 inner.below;
      });
  first = λ b to. (_, piece_is over end.NoBound (end.Bound b false) x h tt to);
  last = λ a from. (_, piece_is over (end.Bound a false) end.NoBound x h from tt);
}

-- ---- seconds
later_by : (a b : ℤ) (P : ℤ → Type 0) (t : Bool) → P a → P b → P (cond t b a)
later_by a b P true one two = two
later_by a b P false one two = one

le_by : (a b : ℤ) (t : Bool) → int_le a b ≡ t → (a ≤ℤ cond t b a) × (b ≤ℤ cond t b a)
le_by a b true e = (omega (arith, ints, e), omega (arith, ints))
le_by a b false e = (omega (arith, ints), omega (arith, ints, e))

ge_by : (a b : ℤ) (t : Bool) → int_le a b ≡ t → (cond t a b ≤ℤ a) × (cond t a b ≤ℤ b)
ge_by a b true e = (omega (arith, ints), omega (arith, ints, e))
ge_by a b false e = (omega (arith, ints, e), omega (arith, ints))

-- the hours from one second to another
abbrev hours_piece : ℤ → ℤ → ℤ → Interval
hours_piece base first last = record { low = end.Bound (hours_of (first -ℤ base)) false; high = end.Bound (hours_of (last -ℤ base)) false }

le_true : (a b : ℤ) → a ≤ℤ b → int_le a b ≡ true
le_true a b h = by_test (int_le a b) refl
  where
    by_test : (t : Bool) → int_le a b ≡ t → t ≡ true
    by_test true e = refl
    by_test false e = absurd (omega (arith, ints, e, h))

hours_are : (base first last t : ℤ) → first ≤ℤ t → t ≤ℤ last → hours_between base first last ≡ Some (hours_piece base first last)
unfolding hours_between
hours_are base first last t from to =
    piece_by (hours_piece base first last) (int_le first last) (le_true first last (omega (arith, ints, from, to)))

-- the first and the last second between two ends round the hours of a second
first_is : (base first t : ℤ) (a : Rational) → first ≤ℤ t → a ≤ℚ hours_of (t -ℤ base) → (first_second_at base first (end.Bound a false) ≤ℤ t) × (a ≤ℚ hours_of (first_second_at base first (end.Bound a false) -ℤ base))
first_is base first t a from h =
    let own = second_from base a in
    let found = first_second_at base first (end.Bound a false) in
    let most = le_by first own (int_le first own) refl in
    let past : (own -ℤ base) ≤ℤ (found -ℤ base) = omega (arith, ints, most.1) in (
      later_by first own (λ s. s ≤ℤ t) (int_le first own) from (first_second base t a h),
      order-transitive a (hours_of (own -ℤ base)) (hours_of (found -ℤ base)) (at_first_second base a) (clock_order-hours (own -ℤ base) (found -ℤ base) past),
    )

last_is : (base last t : ℤ) (a : Rational) → t ≤ℤ last → hours_of (t -ℤ base) ≤ℚ a → (t ≤ℤ last_second_at base last (end.Bound a false)) × (hours_of (last_second_at base last (end.Bound a false) -ℤ base) ≤ℚ a)
last_is base last t a to h =
    let own = second_up_to base a in
    let found = last_second_at base last (end.Bound a false) in
    let least = ge_by last own (int_le last own) refl in
    let within : (found -ℤ base) ≤ℤ (own -ℤ base) = omega (arith, ints, least.1) in (
      later_by own last (λ s. t ≤ℤ s) (int_le last own) (last_second base t a h) to,
      order-transitive (hours_of (found -ℤ base)) (hours_of (own -ℤ base)) a (clock_order-hours (found -ℤ base) (own -ℤ base) within) (at_last_second base a),
    )

seconds_are : (base first last t : ℤ) (low high : Bound) → first_second_at base first low ≤ℤ t → t ≤ℤ last_second_at base last high → seconds_part base first last low high ≡ Some (hours_piece base (first_second_at base first low) (last_second_at base last high))
unfolding seconds_part
seconds_are base first last t low high from to =
    hours_are base (first_second_at base first low) (last_second_at base last high) t from to

pub seconds_have : (base first last t : ℤ) → first ≤ℤ t → t ≤ℤ last → HasX (seconds_part base first last) (hours_of (t -ℤ base))
seconds_have base first last t from to = record {
  between = λ a b low high. (
      let one = first_is base first t a from low in
      let two = last_is base last t b to high in
      let early = first_second_at base first (end.Bound a false) in
      let late = last_second_at base last (end.Bound b false) in
      let before : (early -ℤ base) ≤ℤ (t -ℤ base) = omega (arith, ints, one.0) in
      let after : (t -ℤ base) ≤ℤ (late -ℤ base) = omega (arith, ints, two.0) in
      record {
        low = hours_of (first_second_at base first (end.Bound a false) -ℤ base);
        low_out = false;
        high = hours_of (last_second_at base last (end.Bound b false) -ℤ base);
        high_out = false;
        piece = seconds_are base first last t (end.Bound a false) (end.Bound b false) one.0 two.0;
        from = one.1;
        to = two.1;
        above = clock_order-hours (early -ℤ base) (t -ℤ base) before;
        below = clock_order-hours (t -ℤ base) (late -ℤ base) after;
      });
  first = λ b high. (_, seconds_are base first last t end.NoBound (end.Bound b false) from (last_is base last t b to high).0);
  last = λ a low. (_, seconds_are base first last t (end.Bound a false) end.NoBound (first_is base first t a from low).0 to);
}
