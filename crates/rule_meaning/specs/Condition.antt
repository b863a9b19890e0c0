-- When conditions hold.
use Rattle.std.specs.Prelude.{Bool, false, not, ◌&&◌, if◌then◌else◌, Option, Some, None, Ok, Err}
use Rattle.std.specs.Prelude.{ℤ, pos, slice_get}
use Rattle.exact_fraction.specs.Number.{Rational, whole}
use Rattle.exact_fraction.specs.Operations.{sum_of, difference_of, quotient_of}
use Rattle.exact_fraction.specs.Order.{less}
use Rattle.exact_fraction.specs.Relations.{relates}
use Rattle.exact_fraction.specs.declared.relation.Relation.{Relation}
use Rattle.exact_fraction.specs.declared.relation.Relation.TheVariants.{Eq, Ne}
use Rattle.rule_types.specs.declared.condition.Condition.{Condition}
use Rattle.rule_types.specs.declared.condition.Side.{Side}
use Rattle.rule_types.specs.declared.condition.Side.TheVariants as side
use Rattle.rule_types.specs.declared.condition.Right.{Right}
use Rattle.rule_types.specs.declared.condition.Right.TheVariants as right
use Rattle.rule_types.specs.declared.key.ClockAttr.{ClockAttr}
use Rattle.rule_types.specs.declared.names.NameDef.{NameDef}
use Rattle.rule_types.specs.declared.rules.Rules.{Rules}
use Rattle.rule_types.specs.declared.state.State.{State}
use Rattle.rule_meaning.specs.Clock.{clock_value}
use Rattle.rule_meaning.specs.Formula.{Derived, kind_value}
use Rattle.rule_meaning.specs.State.{value}

-- the number of what a name gives; at a stop there is none, but then nothing is read
abbrev pub number_of : Derived → Option Rational
number_of (Ok found) = found
number_of (Err why) = None

unfoldable pub named_value : Rules → State → Option NameDef → Option Rational
named_value x s None = None
named_value x s (Some named) = number_of (kind_value x s named.stands_for)

-- the value of the left side: of a key, or of the expression of a place (SWMM 5.2 manual,
-- [CONTROLS])
unfoldable pub left_value : Rules → State → Side → Option Rational
left_value x s (side.Key key) = value x s key
left_value x s (side.Expr name) = named_value x s (slice_get x.names name)

-- the value of the right side: of a key, or a number (SWMM 5.2 manual, [CONTROLS])
unfoldable pub right_value : Rules → State → Right → Option Rational
right_value x s (right.Key key) = value x s key
right_value x s (right.Value q) = Some q

-- so many seconds in hours, and half of a step
unfoldable pub hours_of_step : Rational → Rational
hours_of_step seconds = quotient_of seconds (whole (pos 3600))

unfoldable pub half_of : Rational → Rational
half_of hours = quotient_of hours (whole (pos 2))

-- whether a time lies within half a step of another: at least that less half a step, and below that
-- and half a step (SWMM 5.2 manual, [CONTROLS], times)
unfoldable pub is_within : Rational → Rational → Rational → Bool
is_within time other half =
    not (less time (difference_of other half)) && less time (sum_of other half)

-- whether a time stands in a relation to a time value, at a step of so many hours: `=` within half
-- a step, `<>` the contrary, the others exactly
unfoldable pub time_relates : Relation → Rational → Rational → Rational → Bool
time_relates Eq time other step = is_within time other (half_of step)
time_relates Ne time other step = not (is_within time other (half_of step))
time_relates relation time other step = relates relation time other

-- whether two numbers meet a condition (SWMM 5.2 manual, [CONTROLS])
unfoldable pub meets : Condition → Rational → Rational → Rational → Bool
meets c step p q = if c.half_step then time_relates c.rel p q step else relates c.rel p q

-- whether two values meet a condition: not where one is missing
abbrev pub both_meet : Condition → Rational → Option Rational → Option Rational → Bool
both_meet c step (Some p) (Some q) = meets c step p q
both_meet c step (Some p) None = false
both_meet c step None q = false

-- whether a condition holds at a state (SWMM 5.2 manual, [CONTROLS])
unfoldable pub holds : Rules → State → Condition → Bool
holds x s c = both_meet c (hours_of_step s.step) (left_value x s c.left) (right_value x s c.right)

-- whether a condition of the clock against a number holds at a second, from a start and at a step
-- in seconds (SWMM 5.2 manual, [CONTROLS], SIMULATION)
unfoldable pub second_truth : Condition → Rational → ClockAttr → Rational → ℤ → ℤ → Bool
second_truth c step attribute q start second =
    meets c (hours_of_step step) (clock_value attribute start second) q
