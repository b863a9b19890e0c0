-- What numbers that are read lie within.
use Rattle.std.proofs.Common.{◌≡◌, ℕ, zero, suc, ◌+◌, ◌-◌, ◌*◌, ◌%◌, ◌^◌, ◌<◌, ◌≤◌, Bool, true, false, List, [], ◌∷◌, ◌++◌, length, Option, Some, None, ℤ, pos, negsuc, ◌*ℤ◌, refl, sym, ap, subst, ap₂, ◌∙◌, arith, pow-add, le_of_mul-le-mul_right}
use Rattle.std.specs.Prelude.{◌==◌, ◌||◌, IsTrue, IfSome, nat_lt, cond, unsigned_abs, int_lt, option_and_then}
use Rattle.std.proofs.lemmas.Bool.Decides.{nat_tests}
use Rattle.std.proofs.lemmas.Int.{ints}
use Rattle.std.proofs.lemmas.Nat.Gcd.{dvd_trans, mod-eq-zero_of_dvd}
use Rattle.std.proofs.Math.Nat.{dvd-mul_right, one-dvd, mul-le-mul_right}
use Rattle.std.specs.Int.{◌∣◌}
use Rattle.std.specs.Option.{option_or, option_map}
use Rattle.std.specs.Str.Parse.{digits_value}
use Rattle.exact_fraction.specs.Number.{Rational, den, ratio, whole}
use Rattle.exact_fraction.specs.Number.{zero as nought}
use Rattle.exact_fraction.specs.Order.{◌≤ℚ◌, ◌<ℚ◌, less}
use Rattle.exact_fraction.proofs.PublicLaws.{lowest_terms-value, lowest_terms-divides, lowest_terms-itself, lowest_terms-of_whole, tests-less}
use Rattle.num_text.specs.Fields.{leading_digits, past_digits, is_end}
use Rattle.num_text.specs.Pointed.{last_digits, decimals, pointed, pointed_up_to, decimal_up_to}
use Rattle.num_text.specs.Clocks.{clock, clock_below}
use Rattle.num_text.specs.Times.{IsReadHours, IsReadTime, hours_in_digits, time_of}
use Rattle.num_text.specs.Steps.{IsReadStep, positive, step_of, seconds_of, routing_step_of}
use Rattle.num_text.proofs.Digits.{ten_pos}

-- ---- ratios
-- the numerator of a ratio that is not negative
pub record IsSized (n : ℤ) (d v e : ℕ) : Type 0 where
  pub size : ℕ
  pub is : n ≡ pos size
  pub cross : size * d ≡ v * e

sized : (n : ℤ) (d v e : ℕ) → 0 < d → n *ℤ pos d ≡ pos v *ℤ pos e → IsSized n d v e
sized (pos a) d v e p same = record { size = a; is = refl; cross = ap unsigned_abs same }
sized (negsuc a) zero v e p same = absurd (omega arith)
sized (negsuc a) (suc d) v e p same = absurd (omega (arith, ints))

-- a ratio of v over d, where v is at most so many times d
pub record IsWithin (top : ℕ) (q : Rational) : Type 0 where
  pub least : nought ≤ℚ q
  pub most : q ≤ℚ whole (pos top)

from_size : (q : Rational) (d v most size : ℕ) → 0 < d → v ≤ most * d → q.num ≡ pos size → size * d ≡ v * den q → IsWithin most q
unfolding whole den
from_size q d v most size p few is cross =
    let grown : v * den q ≤ most * d * den q = mul-le-mul_right (den q) few in
    let turned : most * d * den q ≡ most * den q * d = omega arith in
    let within : size ≤ most * den q = le_of_mul-le-mul_right (omega arith) p in
    let whole_num : q.num *ℤ pos 1 ≡ pos size = rw is (omega (arith, ints)) in
    record { least = record { le = rw whole_num (omega (arith, ints)) }; most = record { le = rw whole_num (omega (arith, ints)) } }

pub ratio-within : (v d most : ℕ) → 0 < d → v ≤ most * d → IsWithin most (ratio (pos v) d)
ratio-within v d most p few =
    let known = sized (ratio (pos v) d).num d v (den (ratio (pos v) d)) p (lowest_terms-value (pos v) d p) in
    from_size (ratio (pos v) d) d v most known.size p few known.is known.cross

-- ---- what digits with or without a point tell
-- the digits behind the point are few
few_digits : (most : ℕ) (text digits : List ℕ) → last_digits most text ≡ Some digits → length digits ≤ most
few_digits most text digits e = grind (arith, nat_tests)

few_behind : (most : ℕ) (point : Bool) (bytes digits : List ℕ) → option_and_then (λ behind. last_digits most behind) (cond point (Some bytes) None) ≡ Some digits → length digits ≤ most
few_behind most true bytes digits e = few_digits most bytes digits e
few_behind most false bytes digits e = absurd cc

few_decimals : (most : ℕ) (text digits : List ℕ) → decimals most text ≡ Some digits → length digits ≤ most
unfolding decimals
few_decimals most [] digits e = let none : [] ≡ digits = cc in rw (← none) (omega arith)
few_decimals most (byte ∷ bytes) digits e = few_behind most (byte == 46) bytes digits e

-- a whole number
pub whole_is : (second : ℕ) → ratio (pos second) 1 ≡ whole (pos second)
unfolding whole den
whole_is second = lowest_terms-itself (whole (pos second)) (lowest_terms-of_whole (pos second))

-- nine decimals at most: a multiple of 10^-9
billion : (k : ℕ) → k ≤ 9 → 10 ^ k ∣ 1_000_000_000
billion k few =
    let back : k + (9 - k) ≡ 9 = omega arith in
    let all : 10 ^ k * 10 ^ (9 - k) ≡ 10 ^ 9 = sym (pow-add 10 k (9 - k)) ∙ ap (λ n. 10 ^ n) back in
    subst (λ n. 10 ^ k ∣ n) all (dvd-mul_right (10 ^ k) (10 ^ (9 - k)))

pub record IsDecimal (most : ℕ) (q : Rational) : Type 0 where
  pub within : IsWithin most q
  pub multiple : 1_000_000_000 % den q ≡ 0

pointed-decimal : (most : ℕ) (front behind : List ℕ) → length behind ≤ 9 → digits_value 10 (front ++ behind) ≤ most * 10 ^ length behind → IsDecimal most (pointed front behind)
pointed-decimal most front behind few small =
    let some = ten_pos (length behind) in
    record {
      within = ratio-within _ (10 ^ length behind) most some small;
      multiple = mod-eq-zero_of_dvd _ (dvd_trans _ (lowest_terms-divides _ (10 ^ length behind) some) (billion (length behind) few));
    }

by_test : (most : ℕ) (front behind : List ℕ) (q : Rational) → length behind ≤ 9 → pointed_up_to most front behind ≡ Some q → IsDecimal most q
by_test most front behind q few e =
    let known : (digits_value 10 (front ++ behind) ≤ most * 10 ^ length behind) × (pointed front behind ≡ q) = grind (arith, nat_tests) in
    subst (λ r. IsDecimal most r) known.1 (pointed-decimal most front behind few known.0)

by_end : (most : ℕ) (end : Bool) (found : Option (List ℕ)) (front : List ℕ) (q : Rational) → ((behind : List ℕ) → found ≡ Some behind → length behind ≤ 9) → cond end None (option_and_then (λ behind. pointed_up_to most front behind) found) ≡ Some q → IsDecimal most q
by_end most true found front q few e = absurd cc
by_end most false None front q few e = absurd cc
by_end most false (Some behind) front q few e = by_test most front behind q (few behind refl) e

pub decimal_up_to-decimal : (most : ℕ) (text : List ℕ) (q : Rational) → decimal_up_to most text ≡ Some q → IsDecimal most q
unfolding decimal_up_to
decimal_up_to-decimal most text q e =
    by_end most (is_end (leading_digits text)) (decimals 9 (past_digits text)) (leading_digits text) q (few_decimals 9 (past_digits text)) e

whole-decimal : (second : ℕ) → second < 86_401 → IsDecimal 86_400 (whole (pos second))
whole-decimal second few =
    subst (λ p. IsDecimal 86_400 p) (whole_is second) (record {
      within = ratio-within second 1 86_400 (omega arith) (omega arith);
      multiple = mod-eq-zero_of_dvd _ (dvd_trans _ (lowest_terms-divides (pos second) 1 (omega arith)) (one-dvd 1_000_000_000));
    })

-- ---- the clock
below_limit : (limit : ℕ) (found : Option ℕ) (s : ℕ) → option_and_then (λ second. cond (nat_lt second limit) (Some second) None) found ≡ Some s → s < limit
below_limit limit None s e = absurd cc
below_limit limit (Some second) s e = grind (arith, nat_tests)

pub clock_below-limit : (most limit : ℕ) (text : List ℕ) (s : ℕ) → clock_below most limit text ≡ Some s → s < limit
clock_below-limit most limit text s e = below_limit limit (clock most text) s e

-- ---- a number above 0
pub less-nought : (q : Rational) → less nought q ≡ int_lt (pos 0) q.num
unfolding less den whole
less-nought q =
    let left : pos 0 *ℤ pos (suc q.below) ≡ pos 0 = omega (arith, ints) in
    let right : q.num *ℤ pos 1 ≡ q.num = omega (arith, ints) in
    ap₂ int_lt left right

pub positive-above : (p q : Rational) → positive p ≡ Some q → (p ≡ q) × (nought <ℚ q)
positive-above p q e =
    let known : (p ≡ q) × (less nought p ≡ true) = grind (arith, nat_tests) in
    (known.0, (tests-less nought q).0 (ap (λ r. less nought r) (sym known.0) ∙ known.1))

-- ---- what is read
as_hours : (q : Rational) → IsDecimal 1_000_000 q → IsReadHours q
as_hours q known = record { least = known.within.least; most = known.within.most; multiple = known.multiple }

pub hours-bounds : (text : List ℕ) (q : Rational) → hours_in_digits text ≡ Some q → IsReadHours q
hours-bounds text q e = as_hours q (decimal_up_to-decimal 1_000_000 text q e)

pub hours-exact : (q : Rational) → IsReadHours q → IsReadTime q
hours-exact q known =
    let exact : IsTrue (1_000_000_000 % den q == 0 || 3_600 % den q == 0) = rw known.multiple refl in
    record { least = known.least; most = known.most; exact = exact }

pub clock-exact : (second : ℕ) → second < 3_600_000_001 → IsReadTime (ratio (pos second) 3_600)
clock-exact second few =
    let within = ratio-within second 3_600 1_000_000 (omega arith) (omega arith) in
    let divides : 3_600 % den (ratio (pos second) 3_600) ≡ 0 = mod-eq-zero_of_dvd _ (lowest_terms-divides (pos second) 3_600 (omega arith)) in
    record { least = within.least; most = within.most; exact = grind (arith, nat_tests) }

by_time : (found : Option ℕ) (rest : Option Rational) (q : Rational) → ((s : ℕ) → found ≡ Some s → s < 3_600_000_001) → ((p : Rational) → rest ≡ Some p → IsReadTime p) → option_or (option_map (λ second. ratio (pos second) 3600) found) rest ≡ Some q → IsReadTime q
by_time None rest q few known e = known q e
by_time (Some second) rest q few known e =
    let same : ratio (pos second) 3600 ≡ q = cc in
    subst (λ p. IsReadTime p) same (clock-exact second (few second refl))

pub time-bounds : (text : List ℕ) (q : Rational) → time_of text ≡ Some q → IsReadTime q
time-bounds text q e =
    by_time (clock_below 7 3_600_000_001 text) (hours_in_digits text) q (clock_below-limit 7 3_600_000_001 text) (λ p h. hours-exact p (hours-bounds text p h)) e

-- steps
by_seconds : (found : Option ℕ) (rest : Option Rational) (q : Rational) → ((s : ℕ) → found ≡ Some s → s < 86_401) → ((p : Rational) → rest ≡ Some p → IsDecimal 86_400 p) → option_or (option_map (λ second. whole (pos second)) found) rest ≡ Some q → IsDecimal 86_400 q
by_seconds None rest q few known e = known q e
by_seconds (Some second) rest q few known e =
    let same : whole (pos second) ≡ q = cc in
    subst (λ p. IsDecimal 86_400 p) same (whole-decimal second (few second refl))

seconds-decimal : (text : List ℕ) (q : Rational) → seconds_of text ≡ Some q → IsDecimal 86_400 q
seconds-decimal text q e =
    by_seconds (clock_below 7 86_401 text) (decimal_up_to 86_400 text) q (clock_below-limit 7 86_401 text) (decimal_up_to-decimal 86_400 text) e

by_positive : (found : Option Rational) (q : Rational) → ((p : Rational) → found ≡ Some p → IsDecimal 86_400 p) → option_and_then (λ step. positive step) found ≡ Some q → IsReadStep q
by_positive None q known e = absurd cc
by_positive (Some step) q known e =
    let above = positive-above step q e in
    let bounds = subst (λ p. IsDecimal 86_400 p) above.0 (known step refl) in
    record { above = above.1; most = bounds.within.most; multiple = bounds.multiple }

pub step-bounds : (text : List ℕ) (q : Rational) → step_of text ≡ Some q → IsReadStep q
unfolding step_of
step-bounds text q e = by_positive (decimal_up_to 86_400 text) q (decimal_up_to-decimal 86_400 text) e

pub routing_step-bounds : (text : List ℕ) (q : Rational) → routing_step_of text ≡ Some q → IsReadStep q
unfolding routing_step_of
routing_step-bounds text q e = by_positive (seconds_of text) q (seconds-decimal text) e

-- what holds of each number that is found holds of the one that is
pub if_some : (P : Rational → Type 0) (found : Option Rational) → ((q : Rational) → found ≡ Some q → P q) → IfSome found P
if_some P None h = tt
if_some P (Some q) h = h q refl
