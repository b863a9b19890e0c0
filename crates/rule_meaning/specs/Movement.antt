-- How settings follow their targets.
use Rattle.std.specs.Prelude.{if◌then◌else◌}
use Rattle.exact_fraction.specs.Number.{Rational}
use Rattle.exact_fraction.specs.Operations.{sum_of, difference_of, quotient_of, round9_of}
use Rattle.exact_fraction.specs.Order.{less, greater_of, lesser_of}
use Rattle.rule_types.specs.WellFormed.{has_rate}

-- how far a link moves in so many hours: the gap over the time that it takes to open or close
-- fully, with nine decimals (SWMM 5.2 manual, [ORIFICES])
unfoldable pub reach : Rational → Rational → Rational
reach gap rate = round9_of (quotient_of gap rate)

-- where a setting comes that moves by m towards a target: not back, and not past the target
unfoldable pub towards : Rational → Rational → Rational → Rational
towards y target m =
    if less y target
    then lesser_of (greater_of y (sum_of (round9_of y) m)) target
    else (
    if less target y
    then greater_of (lesser_of y (difference_of (round9_of y) m)) target
    else target)

-- the new setting of a link: its target, or on a link with a rate where it comes in the gap (SWMM
-- 5.2 manual, [ORIFICES])
unfoldable pub moved : Rational → Rational → Rational → Rational → Rational
moved rate gap y target = if has_rate rate then towards y target (reach gap rate) else target
