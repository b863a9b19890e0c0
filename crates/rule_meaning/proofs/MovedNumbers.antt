-- A link moves through numbers that a program holds.
use Rattle.std.proofs.Common.{◌≡◌, ℕ, suc, ◌^◌, ◌<◌, ◌≤◌, Bool, true, false, ℤ, pos, negsuc, ◌+ℤ◌, ◌-ℤ◌, ◌*ℤ◌, ◌≤ℤ◌, refl, sym, subst, ◌∙◌, arith, cond}
use Rattle.std.specs.Prelude.{IsTrue, unsigned_abs}
use Rattle.std.specs.Int.{◌∣◌}
use Rattle.std.proofs.lemmas.Int.{ints}
use Rattle.std.proofs.lemmas.Bool.Decides.{nat_tests}
use Rattle.std.proofs.Math.Nat.{le_of_dvd}
use Rattle.exact_fraction.specs.Number.{Rational, den, ratio, whole, zero, one, fits, IsNumber}
use Rattle.exact_fraction.specs.Order.{◌≤ℚ◌, ◌=ℚ◌, less, lesser_of, greater_of}
use Rattle.exact_fraction.specs.Operations.{sum_of, difference_of, quotient_of, round9_of, nearest_whole}
use Rattle.exact_fraction.proofs.PublicLaws.{lowest_terms-value, lowest_terms-divides, lowest_terms-of_same, lowest_terms-of_sum, sums-of_same, sums-commutes, sums-difference_of_same}
use Rattle.rule_types.specs.WellFormed.{has_rate}
use Rattle.rule_meaning.specs.Movement.{reach, towards, moved}
use Rattle.rule_meaning.proofs.Moves.{moved_least, moved_most, moved_at_once}

-- so many billionths, not reduced
abbrev billionths : ℤ → Rational
billionths n = record { num = n; below = 999999999 }

as_billionths : (n : ℤ) → ratio n 1000000000 =ℚ billionths n
unfolding den
as_billionths n = record { eq = lowest_terms-value n 1000000000 (omega arith) }

sum_billionths : (n m : ℤ) → sum_of (ratio n 1000000000) (ratio m 1000000000) ≡ sum_of (billionths n) (billionths m)
sum_billionths n m =
    sums-of_same (ratio n 1000000000) (billionths n) (ratio m 1000000000) (as_billionths n)
    ∙ sums-commutes (billionths n) (ratio m 1000000000)
    ∙ sums-of_same (ratio m 1000000000) (billionths m) (billionths n) (as_billionths m)
    ∙ sums-commutes (billionths m) (billionths n)

difference_billionths : (n m : ℤ) → difference_of (ratio n 1000000000) (ratio m 1000000000) ≡ difference_of (billionths n) (billionths m)
difference_billionths n m =
    (sums-difference_of_same (ratio n 1000000000) (billionths n) (ratio m 1000000000) (as_billionths n)).0
    ∙ (sums-difference_of_same (ratio m 1000000000) (billionths m) (billionths n) (as_billionths m)).1

sum_is : (n m : ℤ) → sum_of (billionths n) (billionths m) ≡ ratio (n +ℤ m) 1000000000
unfolding sum_of den
sum_is n m =
    lowest_terms-of_same (n *ℤ pos 1000000000 +ℤ m *ℤ pos 1000000000) (n +ℤ m) 1000000000000000000 1000000000 (omega arith) (omega arith) (omega (arith, ints))

difference_is : (n m : ℤ) → difference_of (billionths n) (billionths m) ≡ ratio (n -ℤ m) 1000000000
unfolding difference_of den
difference_is n m =
    lowest_terms-of_same (n *ℤ pos 1000000000 -ℤ m *ℤ pos 1000000000) (n -ℤ m) 1000000000000000000 1000000000 (omega arith) (omega arith) (omega (arith, ints))

-- a ratio of billionths from 0 to 1 fits
small_fits : (n : ℤ) (d : ℕ) → d ≤ 1000000000 → pos 0 ≤ℤ n → n ≤ℤ pos d → (unsigned_abs n < 2 ^ 63) × (d < 2 ^ 63)
small_fits (pos n) d small least most = (omega (arith, ints), omega arith)
small_fits (negsuc n) d small least most = absurd (omega (arith, ints))

ratio_fits : (q : Rational) → den q ≤ 1000000000 → zero ≤ℚ q → q ≤ℚ one → IsTrue (fits q)
unfolding fits whole den
ratio_fits q small least most =
    let sizes = small_fits q.num (suc q.below) small (omega (arith, ints, least.le)) (omega (arith, ints, most.le)) in
    grind (arith, nat_tests)

-- such sums and differences are numbers
abbrev IsGood : Rational → Type 0
IsGood q = zero ≤ℚ q → q ≤ℚ one → IsNumber q

billionth_fits : (q : Rational) (n : ℤ) → q ≡ ratio n 1000000000 → zero ≤ℚ q → q ≤ℚ one → IsTrue (fits q)
billionth_fits q n is least most =
    let there : den q ∣ 1000000000 = subst (λ r. den r ∣ 1000000000) (sym is) (lowest_terms-divides n 1000000000 (omega arith)) in
    ratio_fits q (le_of_dvd {m = den q} {n = 1000000000} (omega arith) there) least most

sum_good : (n m : ℤ) → IsGood (sum_of (ratio n 1000000000) (ratio m 1000000000))
sum_good n m = λ least most. record {
  lowest = (lowest_terms-of_sum (ratio n 1000000000) (ratio m 1000000000)).0;
  fitting = billionth_fits _ (n +ℤ m) (sum_billionths n m ∙ sum_is n m) least most;
}

difference_good : (n m : ℤ) → IsGood (difference_of (ratio n 1000000000) (ratio m 1000000000))
difference_good n m = λ least most. record {
  lowest = (lowest_terms-of_sum (ratio n 1000000000) (ratio m 1000000000)).1;
  fitting = billionth_fits _ (n -ℤ m) (difference_billionths n m ∙ difference_is n m) least most;
}

up_good : (p q : Rational) → IsGood (sum_of (round9_of p) (round9_of q))
unfolding round9_of
up_good p q = sum_good (nearest_whole (p.num *ℤ pos 1000000000) (den p)) (nearest_whole (q.num *ℤ pos 1000000000) (den q))

down_good : (p q : Rational) → IsGood (difference_of (round9_of p) (round9_of q))
unfolding round9_of
down_good p q = difference_good (nearest_whole (p.num *ℤ pos 1000000000) (den p)) (nearest_whole (q.num *ℤ pos 1000000000) (den q))

good_either : (b : Bool) (u v : Rational) → IsGood u → IsGood v → IsGood (cond b u v)
good_either true u v h g = h
good_either false u v h g = g

moved_good : (rate gap y t : Rational) → IsNumber y → IsNumber t → IsGood (moved rate gap y t)
unfolding moved towards reach
moved_good rate gap y t h g =
    let m = round9_of (quotient_of gap rate) in
    let up = sum_of (round9_of y) m in
    let down = difference_of (round9_of y) m in
    let y_good : IsGood y = λ least most. h in
    let t_good : IsGood t = λ least most. g in
    good_either (has_rate rate) _ t
    (good_either (less y t) _ _
    (good_either (less t (greater_of y up)) t (greater_of y up) t_good (good_either (less y up) up y (up_good y (quotient_of gap rate)) y_good))
    (good_either (less t y) _ t
    (good_either (less (lesser_of y down) t) t (lesser_of y down) t_good (good_either (less down y) down y (down_good y (quotient_of gap rate)) y_good))
    t_good))
    t_good

number_by : (rate gap y t : Rational) (b : Bool) → has_rate rate ≡ b → IsNumber y → IsNumber t → zero ≤ℚ y → zero ≤ℚ t → (IsTrue (has_rate rate) → (y ≤ℚ one) × (t ≤ℚ one)) → IsNumber (moved rate gap y t)
number_by rate gap y t true is h g y_least t_least most =
    moved_good rate gap y t h g (moved_least rate gap y t y_least t_least) (moved_most rate gap y t (most is).0 (most is).1)
number_by rate gap y t false is h g y_least t_least most = subst IsNumber (sym (moved_at_once rate gap y t is)) g

pub moved_number : (rate gap y t : Rational) → IsNumber y → IsNumber t → zero ≤ℚ y → zero ≤ℚ t → (IsTrue (has_rate rate) → (y ≤ℚ one) × (t ≤ℚ one)) → IsNumber (moved rate gap y t)
moved_number rate gap y t h g y_least t_least most = number_by rate gap y t (has_rate rate) refl h g y_least t_least most
