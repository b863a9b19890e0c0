-- The step of a PID action.
use Rattle.std.specs.Prelude.{◌≡◌, Bool, false, if◌then◌else◌, Result, Ok, pos}
use Rattle.exact_fraction.specs.Number.{Rational, ratio, whole, zero, one, IsNumber}
use Rattle.exact_fraction.specs.Operations.{sum_of, difference_of, product_of, quotient_of}
use Rattle.exact_fraction.specs.Operations.{negation_of, round9_of}
use Rattle.exact_fraction.specs.Order.{◌≤ℚ◌, less, same, greater_of, lesser_of}
use Rattle.exact_fraction.specs.Checked.{checked, is_zero}
use Rattle.exact_fraction.specs.declared.error.Overflow.{Overflow}
use Rattle.rule_types.specs.declared.action.PidSet.{PidSet}
use Rattle.rule_types.specs.declared.action.PidMemory.{PidMemory}
use Rattle.rule_types.specs.WellFormed.{IsMultipleOfBillionth}
use Rattle.rule_meaning.specs.Formula.{size_of}
use Rattle.rule_meaning.specs.CheckedSteps.{◌>>=◌}

-- the memory at first: the errors 0 and 0
abbrev pub fresh : PidMemory
fresh = record { e1 = zero; e2 = zero }

-- whether a number lies closer to 0 than 0.0001
unfoldable pub is_tiny : Rational → Bool
is_tiny q = less (size_of q) (ratio (pos 1) 10000)

-- the error of a controller x from its set point, of the set point's size and with nine decimals: 0
-- at the set point, and -1 where the set point is 0 (SWMM 5.2 manual, modulated controls)
unfoldable pub relative_error : Rational → Rational → Result Rational Overflow
relative_error set_point x = do
  gap ← checked (difference_of set_point x)
  share ← checked (quotient_of gap set_point)
  checked (round9_of share)

unfoldable pub error_of : Rational → Rational → Result Rational Overflow
error_of set_point x =
    if same x set_point then Ok zero
    else (if is_zero set_point then Ok (negation_of one) else relative_error set_point x)

-- where the error has hardly moved the controller is stuck, and the memory becomes 0 and 0
unfoldable pub unstuck : Rational → PidMemory → Result PidMemory Overflow
unstuck e0 memory = do
  moved ← checked (difference_of e0 memory.e1)
  Ok (if is_tiny moved then fresh else memory)

-- the integral part of the change: 0 where the integral time is 0 (SWMM 5.2 manual, modulated
-- controls)
unfoldable pub integral_part : PidSet → Rational → Rational → Result Rational Overflow
integral_part set e0 minutes =
    if is_zero set.integral then Ok zero
    else (checked (product_of e0 minutes) >>= λ area. checked (quotient_of area set.integral))

-- the derivative part of the change (SWMM 5.2 manual, modulated controls)
unfoldable pub derivative_part : PidSet → Rational → PidMemory → Rational → Result Rational Overflow
derivative_part set e0 memory minutes = do
  twice ← checked (product_of (whole (pos 2)) memory.e1)
  first ← checked (difference_of e0 twice)
  bend ← checked (sum_of first memory.e2)
  product ← checked (product_of set.derivative bend)
  checked (quotient_of product minutes)

-- the change of the setting: the gain times proportional, integral and derivative parts (SWMM 5.2
-- manual, modulated controls); one below 0.0001 in size counts as 0
unfoldable pub change_of : PidSet → Rational → PidMemory → Rational → Result Rational Overflow
change_of set e0 memory minutes = do
  proportional ← checked (difference_of e0 memory.e1)
  integral ← integral_part set e0 minutes
  derivative ← derivative_part set e0 memory minutes
  two ← checked (sum_of proportional integral)
  three ← checked (sum_of two derivative)
  change ← checked (product_of set.gain three)
  Ok (if is_tiny change then zero else change)

-- a setting is at least 0, and at most 1 unless the link is a pump (SWMM 5.2 manual, modulated
-- controls)
unfoldable pub bounded : Bool → Rational → Rational
bounded pump q = if pump then greater_of zero q else lesser_of one (greater_of zero q)

-- such a setting
pub record IsPidValue (pump : Bool) (q : Rational) : Type 0 where
  pub least : zero ≤ℚ q
  pub most : pump ≡ false → q ≤ℚ one

-- an error that a PID action keeps: a number with nine decimals
pub record IsKeptError (q : Rational) : Type 0 where
  pub number : IsNumber q
  pub exact : IsMultipleOfBillionth q

-- a memory that a PID action has
pub record IsKept (memory : PidMemory) : Type 0 where
  pub e1 : IsKeptError memory.e1
  pub e2 : IsKeptError memory.e2

-- the value that a step gives, and the memory that it leaves
pub record Stepped : Type 0 where
  pub value : Rational
  pub memory : PidMemory

-- One step of a PID action from the old target of its link, after so many minutes: the new value
-- with nine decimals, and the errors moved on by one (SWMM 5.2 manual, modulated controls).
unfoldable pub pid_step : PidSet → Rational → Rational → Rational → Rational → Bool → PidMemory
    → Result Stepped Overflow
pid_step set set_point x old minutes pump before = do
  e0 ← error_of set_point x
  memory ← unstuck e0 before
  change ← change_of set e0 memory minutes
  moved ← checked (sum_of old change)
  rounded ← checked (round9_of moved)
  Ok (record { value = bounded pump rounded; memory = record { e1 = e0; e2 = memory.e1 } })
