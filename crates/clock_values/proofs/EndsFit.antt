-- Half a step fits, and so do the times half a step before and after a time value.
use Rattle.std.proofs.Common.{◌≡◌, ℕ, ◌+◌, ◌*◌, ◌/◌, ◌%◌, ◌^◌, ◌<◌, ◌≤◌, ◌⊎◌, inl, inr}
use Rattle.std.proofs.Common.{ℤ, pos, negsuc, ◌+ℤ◌, ◌-ℤ◌, ◌*ℤ◌, ◌≤ℤ◌, refl, sym, subst, ◌∙◌, arith, ap, ⊎_elim}
use Rattle.std.proofs.Common.{Bool, true, false, div-add-mod', mul-le-mul_right}
use Rattle.std.specs.Prelude.{unsigned_abs, IsTrue, ◌||◌, ◌==◌}
use Rattle.std.specs.Int.{◌∣◌}
use Rattle.std.proofs.lemmas.Int.{ints}
use Rattle.std.proofs.lemmas.Bool.Decides.{nat_tests}
use Rattle.std.proofs.lemmas.Nat.Gcd.{dvd_trans, dvd_of_mod-eq-zero, mod-eq-zero_of_dvd}
use Rattle.std.proofs.Math.Nat.{dvd-mul_right}
use Rattle.exact_fraction.specs.Number.{Rational, den, ratio, whole, fits}
use Rattle.exact_fraction.specs.Number.{zero as nought}
use Rattle.exact_fraction.specs.Operations.{quotient_of, sum_of, difference_of}
use Rattle.exact_fraction.specs.Order.{◌≤ℚ◌}
use Rattle.exact_fraction.proofs.PublicLaws.{lowest_terms-fits, lowest_terms-positive}
use Rattle.exact_fraction.proofs.PublicLaws.{lowest_terms-value, lowest_terms-divides}
use Rattle.exact_fraction.proofs.PublicLaws.{lowest_terms-of_same, ratios-at_most}
use Rattle.exact_fraction.proofs.PublicLaws.{common_denominators-difference_fits}
use Rattle.exact_fraction.proofs.PublicLaws.{common_denominators-sum_fits}
use Rattle.exact_fraction.proofs.Ring.{at, nat, by, ring, parts_same}
use Rattle.rule_types.specs.WellFormed.{IsTimeValue, IsRoutingStep}
use Rattle.rule_types.specs.Fitting.{IsStep, IsRowStep}
use Rattle.rule_meaning.specs.Condition.{hours_of_step, half_of}
use Rattle.clock_values.specs.Steps.{IsStepInHours, EndsFit}
use Rattle.clock_values.proofs.Made.{whole_is, parts_are, step_size, StepSize}

-- ---- numbers up to a whole number, over a multiple of their denominators
pub record IsUpTo (most l : ℕ) (q : Rational) : Type 0 where
  pub least : nought ≤ℚ q
  pub up_to : q ≤ℚ whole (pos most)
  pub divides : den q ∣ l

multiple : (l d : ℕ) → d ∣ l → l ≡ (l / d) * d
multiple l d h = omega (arith, div-add-mod' l d, mod-eq-zero_of_dvd d h)

record Sized (n : ℤ) (top : ℕ) : Type 0 where
  size : ℕ
  is : n ≡ pos size
  most : size ≤ top

sized_by : (most l k : ℕ) (q : Rational) (n : ℤ) → q.num ≡ n → IsUpTo most l q → l ≡ k * den q
    → Sized (n *ℤ pos k) (most * l)
unfolding whole den
sized_by most l k q (pos a) e h m =
    let up : (pos a *ℤ pos 1) ≤ℤ (pos most *ℤ pos (den q)) = subst (λ n. (n *ℤ pos 1) ≤ℤ (pos most *ℤ pos (den q))) e h.up_to.le in
    let few : a ≤ most * den q = omega (arith, ints) in
    let grown : a * k ≤ most * den q * k = mul-le-mul_right k few in
    record { size = a * k; is = omega (arith, ints); most = omega (arith, ap (λ x. most * x) m) }
sized_by most l k q (negsuc a) e h m =
    let least : (pos 0 *ℤ pos (den q)) ≤ℤ (negsuc a *ℤ pos 1) = subst (λ n. (pos 0 *ℤ pos (den q)) ≤ℤ (n *ℤ pos 1)) e h.least.le in
    absurd (omega (arith, ints))

apart : (x y : ℕ) → x < 2 ^ 63 → y < 2 ^ 63 → unsigned_abs (pos x -ℤ pos y) < 2 ^ 63
apart x y h k = omega (arith, ints)

together : (x y : ℕ) → x + y < 2 ^ 63 → unsigned_abs (pos x +ℤ pos y) < 2 ^ 63
together x y h = omega (arith, ints)

pub both_fit : (m n l : ℕ) (p q : Rational) → 0 < l → l < 2 ^ 63 → m * l + n * l < 2 ^ 63
    → IsUpTo m l p → IsUpTo n l q → IsTrue (fits (difference_of p q)) × IsTrue (fits (sum_of p q))
both_fit m n l p q some small room h k =
    let over_p = multiple l (den p) h.divides in
    let over_q = multiple l (den q) k.divides in
    let a = sized_by m l (l / den p) p p.num refl h over_p in
    let b = sized_by n l (l / den q) q q.num refl k over_q in (
      common_denominators-difference_fits p q (l / den q) (l / den p) l some over_p over_q
          (rw (a.is, b.is) (apart a.size b.size (omega (arith, a.most)) (omega (arith, b.most)))) small,
      common_denominators-sum_fits p q (l / den q) (l / den p) l some over_p over_q
          (rw (a.is, b.is) (together a.size b.size (omega (arith, a.most, b.most)))) small,
    )

-- ---- half of a step in seconds, in hours
twice_cross : (a x : ℤ) (b e : ℕ) → x *ℤ pos (b * 3600) ≡ (a *ℤ pos 1) *ℤ pos e
    → (x *ℤ pos 1) *ℤ pos (7200 * b) ≡ a *ℤ pos (e * 2)
twice_cross a x b e h =
    let p = parts_same (by (at x) (nat (b * 3600))) (by (by (at a) (nat 1)) (nat e)) h in
    ring (by (by (at x) (nat 1)) (nat (7200 * b))) (by (at a) (nat (e * 2))) (omega (arith, p))

pub half_is : (s : Rational) → half_of (hours_of_step s) ≡ ratio s.num (7200 * den s)
unfolding half_of hours_of_step
half_is s =
    let some = lowest_terms-positive s in
    let h = ratio (s.num *ℤ pos 1) (den s * 3600) in
    let value = lowest_terms-value (s.num *ℤ pos 1) (den s * 3600) (omega arith) in
    let over = lowest_terms-positive h in
    let same = lowest_terms-of_same (h.num *ℤ pos 1) s.num (den h * 2) (7200 * den s) (omega arith) (omega arith)
    (twice_cross s.num h.num (den s) (den h) value) in
    ap (λ x. quotient_of x (whole (pos 2))) (parts_are s 3600 (omega arith))
    ∙ parts_are h 2 (omega arith) ∙ same

half_at_least : (s : Rational) → StepSize s → nought ≤ℚ ratio s.num (7200 * den s)
half_at_least s size =
    let some = lowest_terms-positive s in
    let cross : (pos 0 *ℤ pos (7200 * den s)) ≤ℤ (s.num *ℤ pos 1) = rw size.num (omega (arith, ints)) in
    subst (λ x. x ≤ℚ ratio s.num (7200 * den s)) (whole_is (pos 0))
    (ratios-at_most (pos 0) s.num 1 (7200 * den s) (omega arith) (omega arith) cross)

half_at_most : (s : Rational) (top most : ℕ) → StepSize s → s ≤ℚ whole (pos top) → top ≤ 7200 * most
    → ratio s.num (7200 * den s) ≤ℚ whole (pos most)
unfolding whole den
half_at_most s top most size up room =
    let some = lowest_terms-positive s in
    let few : size.size ≤ top * den s = let le : (pos size.size *ℤ pos 1) ≤ℤ (pos top *ℤ pos (den s)) = subst (λ n. (n *ℤ pos 1) ≤ℤ (pos top *ℤ pos (den s))) size.num up.le in omega (arith, ints) in
    let grown : top * den s ≤ 7200 * most * den s = mul-le-mul_right (den s) room in
    let cross : (s.num *ℤ pos 1) ≤ℤ (pos most *ℤ pos (7200 * den s)) = rw size.num (omega (arith, ints)) in
    subst (λ x. ratio s.num (7200 * den s) ≤ℚ x) (whole_is (pos most))
    (ratios-at_most s.num (pos most) (7200 * den s) 1 (omega arith) (omega arith) cross)

half_up_to : (s : Rational) (top most l : ℕ) → StepSize s → s ≤ℚ whole (pos top) → top ≤ 7200 * most → (7200 * den s) ∣ l
    → IsUpTo most l (ratio s.num (7200 * den s))
half_up_to s top most l size up room over =
    let some = lowest_terms-positive s in
    record {
      least = half_at_least s size;
      up_to = half_at_most s top most size up room;
      divides = dvd_trans _ (lowest_terms-divides s.num (7200 * den s) (omega arith)) over;
    }

-- ---- a time value
either : (a b : Bool) → IsTrue (a || b) → (a ≡ true) ⊎ (b ≡ true)
either true b h = inl refl
either false b h = inr h

over_one : (d x y l : ℕ) → x ∣ l → y ∣ l → IsTrue (x % d == 0 || y % d == 0) → d ∣ l
over_one d x y l p q h =
    ⊎_elim
    (λ (e : (x % d == 0) ≡ true). dvd_trans d (dvd_of_mod-eq-zero d (grind (arith, nat_tests))) p)
    (λ (e : (y % d == 0) ≡ true). dvd_trans d (dvd_of_mod-eq-zero d (grind (arith, nat_tests))) q)
    (either (x % d == 0) (y % d == 0) h)

time_up_to : (q : Rational) (l : ℕ) → IsTimeValue q → 1000000000 ∣ l → 3600 ∣ l → IsUpTo 1000000 l q
time_up_to q l h p k =
    record { least = h.least; up_to = h.most; divides = over_one (den q) 1000000000 3600 l p k h.exact }

-- ---- both kinds of steps
ends_by : (q s : Rational) (most l : ℕ) → IsTimeValue q → StepSize s → 0 < l → l < 2 ^ 63 → 1000000 * l + most * l < 2 ^ 63
    → 1000000000 ∣ l → 3600 ∣ l → IsUpTo most l (ratio s.num (7200 * den s)) → EndsFit q (hours_of_step s)
ends_by q s most l time size some small room billion hour half =
    let positive = lowest_terms-positive s in
    let both = both_fit 1000000 most l q (ratio s.num (7200 * den s)) some small room (time_up_to q l time billion hour) half in
    let few : unsigned_abs s.num < 2 ^ 63 = rw size.num (omega (arith, ints, size.most)) in
    record {
      half = rw (half_is s) (lowest_terms-fits s.num (7200 * den s) (omega arith) few (omega (arith, size.below)));
      low = rw (half_is s) both.0;
      high = rw (half_is s) both.1;
    }

routing_over : (d : ℕ) → 1000000000 % d ≡ 0 → (7200 * d) ∣ 7200000000000
routing_over d e =
    let back : 1000000000 ≡ (1000000000 / d) * d = omega (arith, div-add-mod' 1000000000 d, e) in
    subst (λ n. (7200 * d) ∣ n) (omega (arith, back)) (dvd-mul_right (7200 * d) (1000000000 / d))

routing_ends : (q s : Rational) → IsTimeValue q → IsStep s → IsRoutingStep s → EndsFit q (hours_of_step s)
routing_ends q s time step h =
    let size = step_size s step in
    ends_by q s 12 7200000000000 time size (omega arith) (omega arith) (omega arith)
    (dvd_of_mod-eq-zero 1000000000 refl) (dvd_of_mod-eq-zero 3600 refl)
    (half_up_to s 86400 12 7200000000000 size h.most (omega arith) (routing_over (den s) h.exact.divides))

row_ends : (q s : Rational) → IsTimeValue q → IsStep s → IsRowStep s → EndsFit q (hours_of_step s)
row_ends q s time step h =
    let size = step_size s step in
    let over : (7200 * den s) ∣ 9000000000 = rw h.seconds (dvd_of_mod-eq-zero 7200 refl) in
    ends_by q s 43824709 9000000000 time size (omega arith) (omega arith) (omega arith)
    (dvd_of_mod-eq-zero 1000000000 refl) (dvd_of_mod-eq-zero 3600 refl)
    (half_up_to s 315537897599 43824709 9000000000 size h.most (omega arith) over)

seconds_ends : (q s : Rational) → IsTimeValue q → IsStep s → EndsFit q (hours_of_step s)
unfolding IsStep
seconds_ends q s time step =
    ⊎_elim (λ (h : IsRoutingStep s). routing_ends q s time (inl h) h) (λ (h : IsRowStep s). row_ends q s time (inr h) h) step

pub ends_fit : (q step : Rational) → IsTimeValue q → IsStepInHours step → EndsFit q step
ends_fit q step time h = subst (EndsFit q) (sym h.hours_are) (seconds_ends q h.seconds time h.step)
