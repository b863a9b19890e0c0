-- What a call answers: the number where it fits, and else the error.
use Rattle.std.specs.Prelude.{suc, ℤ, pos, negsuc, ◌==◌, Option, Some}
use Rattle.std.specs.Prelude.{None, Result, Ok, Err, if◌then◌else◌, Bool, unsigned_abs}
use Rattle.std.specs.Prelude.{zero as nothing}
use Rattle.exact_fraction.specs.Number.{Rational, ratio, fits}
use Rattle.exact_fraction.specs.Operations.{quotient_of}
use Rattle.exact_fraction.specs.declared.error.Overflow.{Overflow}
use Rattle.exact_fraction.specs.declared.error.DivFault.{DivFault}
use Rattle.exact_fraction.specs.declared.error.DivFault.TheVariants as fault

-- the number where it fits, and nothing else
unfoldable pub fitting : Rational → Option Rational
fitting q = if fits q then Some q else None

-- n over d where d is positive and the fraction fits
unfoldable pub made : ℤ → ℤ → Option Rational
made n (pos nothing) = None
made n (pos (suc d)) = fitting (ratio n (suc d))
made n (negsuc d) = None

-- the number where it fits, and else Overflow
unfoldable pub checked : Rational → Result Rational Overflow
checked q = if fits q then Ok q else Err (record {})

-- whether q is 0
unfoldable pub is_zero : Rational → Bool
is_zero q = unsigned_abs q.num == 0

-- p / q: Zero where q is 0, and else Overflow where the quotient does not fit
unfoldable pub checked_quotient : Rational → Rational → Result Rational DivFault
checked_quotient p q =
    if is_zero q then Err fault.Zero
    else (if fits (quotient_of p q) then Ok (quotient_of p q) else Err fault.Overflow)
