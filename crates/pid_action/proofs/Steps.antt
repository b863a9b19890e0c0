-- What a step of a PID action needs of the numbers, and what it gives.
use Rattle.std.proofs.Common.{◌≡◌, Bool, true, false, pos, Some, Result, Ok, Err, refl, sym, subst, rules, arith}
use Rattle.std.specs.Prelude.{IfOk}
use Rattle.std.proofs.lemmas.Int.{ints}
use Rattle.exact_fraction.specs.Number.{Rational, last_remainder, gcd, cancelled, ratio, whole, den, fits, zero, one}
use Rattle.exact_fraction.specs.Order.{◌<ℚ◌, ◌=ℚ◌}
use Rattle.exact_fraction.specs.Checked.{made, fitting, is_zero}
use Rattle.exact_fraction.specs.declared.error.Overflow.{Overflow}
use Rattle.exact_fraction.proofs.PublicLaws.{tests-is_zero, order_steps}
use Rattle.rule_types.specs.declared.action.PidSet.{PidSet}
use Rattle.rule_types.specs.declared.action.PidMemory.{PidMemory}
use Rattle.rule_meaning.specs.Pid.{IsPidValue, Stepped, pid_step}
use Rattle.rule_meaning.specs.Worth.{value_stepped}
use Rattle.rule_meaning.proofs.PublicLaws.{values-pids}

-- two numbers are made
pub two_made : made (pos 2) (pos 1) ≡ Some (whole (pos 2))
unfolding made fitting ratio gcd last_remainder cancelled whole fits den
two_made = refl

pub ten_thousandth_made : made (pos 1) (pos 10000) ≡ Some (ratio (pos 1) 10000)
unfolding made fitting ratio gcd last_remainder cancelled fits den
ten_thousandth_made = refl

-- a number above 0 divides
pub above_divides : (q : Rational) → zero <ℚ q → is_zero q ≡ false
above_divides q above = by_test (is_zero q) refl
  where
    by_test : (t : Bool) → is_zero q ≡ t → t ≡ false
    by_test false e = refl
    by_test true e = let same : q =ℚ zero = (tests-is_zero q).0 (rw e (search rules)) in grind (arith, order_steps)

-- the value of a step lies in its bounds
pub value_in_bounds : (set : PidSet) (set_point x old minutes : Rational) (pump : Bool) (before : PidMemory) (q : Rational) → value_stepped (pid_step set set_point x old minutes pump before) ≡ Ok q → IsPidValue pump q
value_in_bounds set set_point x old minutes pump before q told =
    by_result (pid_step set set_point x old minutes pump before) told (values-pids set set_point x old minutes pump before)
  where
    by_result : (r : Result Stepped Overflow) → value_stepped r ≡ Ok q → IfOk r (λ stepped. IsPidValue pump stepped.value) → IsPidValue pump q
    by_result (Ok stepped) told bounds = subst (IsPidValue pump) (search rules) bounds
    by_result (Err why) told bounds = grind arith

-- 1 is above 0
pub one_above : (q : Rational) → q ≡ one → zero <ℚ q
unfolding whole den
one_above q e = subst (λ p. zero <ℚ p) (sym e) (record { lt = omega (arith, ints) })
