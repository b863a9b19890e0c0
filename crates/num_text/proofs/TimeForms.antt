-- Time values and steps are read exactly from their parts.
use Rattle.std.specs.Prelude.{◌↔◌, ◌&&◌, nat_lt, nat_le, option_and_then}
use Rattle.std.proofs.Common.{◌≡◌, ◌⊎◌, inl, inr, ℕ, ◌+◌, ◌<◌, ◌≤◌, Bool, true, false, cond, List, [], ◌∷◌, ◌++◌, length, Option, None, Some, refl, sym, ap, subst, ◌∙◌, arith, pos}
use Rattle.std.specs.Option.{option_or, option_map}
use Rattle.std.proofs.lemmas.Bool.Decides.{nat_tests}
use Rattle.std.specs.Str.Parse.{digits_value}
use Rattle.exact_fraction.specs.Number.{Rational, ratio, whole}
use Rattle.exact_fraction.specs.Number.{zero as nought}
use Rattle.exact_fraction.specs.Order.{◌<ℚ◌, less}
use Rattle.exact_fraction.proofs.PublicLaws.{tests-less}
use Rattle.num_text.specs.Fields.{Field, leading_digits, past_digits, begins_with_digits, field, past}
use Rattle.num_text.specs.Clocks.{clock, clock_below}
use Rattle.num_text.specs.Pointed.{decimal_up_to}
use Rattle.num_text.specs.Times.{hours_on_clock, hours_in_digits, time_of}
use Rattle.num_text.specs.Steps.{positive, step_of, seconds_on_clock, seconds_of, routing_step_of}
use Rattle.num_text.specs.NumberText.{AllDigits, point_text}
use Rattle.num_text.specs.ClockText.{ClockParts, IsClockText, seconds_of_parts}
use Rattle.num_text.specs.DecimalText.{IsDecimalText}
use Rattle.num_text.specs.TimeText.{IsDecimalUpTo, IsClockUpTo, IsTimeText, IsStepText, IsRoutingStepText}
use Rattle.num_text.proofs.Within.{positive-above}
use Rattle.num_text.proofs.Grammar.{then_some, cond_some, field_shape}
use Rattle.num_text.proofs.ClockForms.{clock_is, clock_of_parts}
use Rattle.num_text.proofs.DecimalForms.{point_apart, decimal_is, decimal_of_parts}

same_some : {A : Type 0} (x y : A) → Some x ≡ Some y → x ≡ y
same_some x y e = cc

-- ---- a time of the clock below a limit
pub clock_below_is : (most limit : ℕ) (text : List ℕ) (seconds : ℕ) → clock_below most limit text ≡ Some seconds → (p : ClockParts) × IsClockText most text p × (seconds_of_parts p ≡ seconds) × (seconds < limit)
clock_below_is most limit text seconds e =
    let step = then_some (clock most text) (λ second. cond (nat_lt second limit) (Some second) None) seconds e in
    let known = cond_some (nat_lt step.0 limit) step.0 seconds step.2 in
    let same = same_some step.0 seconds known.1 in
    let below : step.0 < limit = grind (arith, nat_tests) in
    let read = clock_is most text step.0 step.1 in
    (read.0, read.1, read.2 ∙ same, rw same at below)

pub clock_below_of : (most limit : ℕ) (text : List ℕ) (p : ClockParts) → IsClockText most text p → seconds_of_parts p < limit → clock_below most limit text ≡ Some (seconds_of_parts p)
clock_below_of most limit text p known less =
    let test : nat_lt (seconds_of_parts p) limit ≡ true = grind (arith, nat_tests) in
    rw (clock_of_parts most text p known) (rw test refl)

up_to_is : (most : ℕ) (text : List ℕ) (seconds : ℕ) → clock_below 7 (most + 1) text ≡ Some seconds → IsClockUpTo most text seconds
up_to_is most text seconds e =
    let known = clock_below_is 7 (most + 1) text seconds e in
    let below = known.3 in
    record { parts = known.0; clock = known.1; value = known.2; at_most = omega arith }

up_to_of : (most : ℕ) (text : List ℕ) (seconds : ℕ) → IsClockUpTo most text seconds → clock_below 7 (most + 1) text ≡ Some seconds
up_to_of most text seconds known =
    let same = known.value in
    let high = known.at_most in
    clock_below_of 7 (most + 1) text known.parts known.clock (omega arith) ∙ ap Some same

-- a decimal is no time of the clock
no_colon : (most : ℕ) (text rest : List ℕ) (number : ℕ) (test : Bool) → field 1 most text ≡ cond test (Some (record { number = number; rest = rest })) None → past 58 rest ≡ None → clock most text ≡ None
unfolding clock
no_colon most text rest number true e none = rw e (rw none refl)
no_colon most text rest number false e none = rw e refl

point_no_colon : (behind : Option (List ℕ)) → past 58 (point_text behind) ≡ None
point_no_colon None = refl
point_no_colon (Some digits) = refl

no_clock : (most : ℕ) (digits : List ℕ) (behind : Option (List ℕ)) → AllDigits digits → clock most (digits ++ point_text behind) ≡ None
no_clock most digits behind known =
    no_colon most (digits ++ point_text behind) (point_text behind) (digits_value 10 digits) (nat_le 1 (length digits) && nat_le (length digits) most) (field_shape 1 most digits (point_text behind) known (point_apart behind)) (point_no_colon behind)

decimal_no_clock : (limit most : ℕ) (text : List ℕ) (q : Rational) → IsDecimalUpTo most text q → clock_below 7 limit text ≡ None
decimal_no_clock limit most text q known =
    let none = no_clock 7 known.parts.whole known.parts.behind known.decimal.whole in
    rw known.decimal.joined (rw none refl)

-- ---- a time of the clock, or a decimal
pub IsEither : (ℕ → Rational) → ℕ → ℕ → List ℕ → Rational → Type 0
IsEither unit by_clock most text q = ((seconds : ℕ) × IsClockUpTo by_clock text seconds × (unit seconds ≡ q)) ⊎ IsDecimalUpTo most text q

either_by : (unit : ℕ → Rational) (by_clock most : ℕ) (text : List ℕ) (q : Rational) (found : Option ℕ) → clock_below 7 (by_clock + 1) text ≡ found → option_or (option_map unit found) (decimal_up_to most text) ≡ Some q → IsEither unit by_clock most text q
unfolding IsEither
either_by unit by_clock most text q None e f = inr (decimal_is most text q f)
either_by unit by_clock most text q (Some seconds) e f = inl (seconds, up_to_is by_clock text seconds e, same_some (unit seconds) q f)

either_is : (unit : ℕ → Rational) (by_clock most : ℕ) (text : List ℕ) (q : Rational) → option_or (option_map unit (clock_below 7 (by_clock + 1) text)) (decimal_up_to most text) ≡ Some q → IsEither unit by_clock most text q
either_is unit by_clock most text q e = either_by unit by_clock most text q (clock_below 7 (by_clock + 1) text) refl e

either_of : (unit : ℕ → Rational) (by_clock most : ℕ) (text : List ℕ) (q : Rational) → IsEither unit by_clock most text q → option_or (option_map unit (clock_below 7 (by_clock + 1) text)) (decimal_up_to most text) ≡ Some q
unfolding IsEither
either_of unit by_clock most text q (inl known) = rw (up_to_of by_clock text known.0 known.1) (ap Some known.2)
either_of unit by_clock most text q (inr known) = rw (decimal_no_clock (by_clock + 1) most text q known) (decimal_of_parts most text q known)

-- ---- above 0
positive_of : (q : Rational) → nought <ℚ q → positive q ≡ Some q
positive_of q above =
    let test : less nought q ≡ true = (tests-less nought q).1 above in
    rw test refl

above_is : (found : Option Rational) (q : Rational) → option_and_then (λ step. positive step) found ≡ Some q → (found ≡ Some q) × (nought <ℚ q)
above_is found q e =
    let step = then_some found (λ step. positive step) q e in
    let known = positive-above step.0 q step.2 in
    (step.1 ∙ ap Some known.0, known.1)

above_of : (found : Option Rational) (q : Rational) → found ≡ Some q → nought <ℚ q → option_and_then (λ step. positive step) found ≡ Some q
above_of found q e above = rw e (positive_of q above)

-- ---- each way
pub time-read : (text : List ℕ) (q : Rational) → time_of text ≡ Some q ↔ IsTimeText text q
unfolding IsEither
time-read text q = (either_is (λ seconds. ratio (pos seconds) 3600) 3_600_000_000 1_000_000 text q, either_of (λ seconds. ratio (pos seconds) 3600) 3_600_000_000 1_000_000 text q)

pub hours-read : (text : List ℕ) (q : Rational) → hours_in_digits text ≡ Some q ↔ IsDecimalUpTo 1_000_000 text q
hours-read text q = (decimal_is 1_000_000 text q, decimal_of_parts 1_000_000 text q)

step_is : (text : List ℕ) (q : Rational) → step_of text ≡ Some q → IsStepText text q
unfolding step_of
step_is text q e = let known = above_is (decimal_up_to 86_400 text) q e in (decimal_is 86_400 text q known.0, known.1)

step_from : (text : List ℕ) (q : Rational) → IsStepText text q → step_of text ≡ Some q
unfolding step_of
step_from text q known = above_of (decimal_up_to 86_400 text) q (decimal_of_parts 86_400 text q known.0) known.1

pub step-read : (text : List ℕ) (q : Rational) → step_of text ≡ Some q ↔ IsStepText text q
step-read text q = (step_is text q, step_from text q)

routing_is : (text : List ℕ) (q : Rational) → routing_step_of text ≡ Some q → IsRoutingStepText text q
unfolding routing_step_of IsEither
routing_is text q e =
    let known = above_is (seconds_of text) q e in
    (either_is (λ seconds. whole (pos seconds)) 86_400 86_400 text q known.0, known.1)

routing_from : (text : List ℕ) (q : Rational) → IsRoutingStepText text q → routing_step_of text ≡ Some q
unfolding routing_step_of IsEither
routing_from text q known = above_of (seconds_of text) q (either_of (λ seconds. whole (pos seconds)) 86_400 86_400 text q known.0) known.1

pub routing_step-read : (text : List ℕ) (q : Rational) → routing_step_of text ≡ Some q ↔ IsRoutingStepText text q
routing_step-read text q = (routing_is text q, routing_from text q)
