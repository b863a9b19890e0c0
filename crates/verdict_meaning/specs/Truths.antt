-- What is known of conditions in a box.
use Rattle.std.specs.Prelude.{ℕ, suc, ◌+◌, Bool, true, false, not, ◌&&◌, ◌||◌, if◌then◌else◌}
use Rattle.std.specs.Prelude.{Option, Some, None, List, ℤ, pos, ◌+ℤ◌, ◌-ℤ◌, int_lt, unsigned_abs}
use Rattle.std.specs.Prelude.{zero as nothing}
use Rattle.exact_fraction.specs.Number.{Rational}
use Rattle.exact_fraction.specs.Operations.{sum_of, difference_of}
use Rattle.exact_fraction.specs.Order.{less}
use Rattle.exact_fraction.specs.declared.relation.Relation.{Relation}
use Rattle.exact_fraction.specs.declared.relation.Relation.TheVariants.{Eq, Ne, Lt, Le, Gt, Ge}
use Rattle.interval_sets.specs.declared.interval.Bound.{Bound}
use Rattle.interval_sets.specs.declared.interval.Bound.TheVariants as end
use Rattle.interval_sets.specs.declared.interval.Interval.{Interval}
use Rattle.rule_types.specs.declared.condition.Condition.{Condition}
use Rattle.rule_types.specs.declared.condition.Side.{Side}
use Rattle.rule_types.specs.declared.condition.Side.TheVariants as side
use Rattle.rule_types.specs.declared.condition.Right.{Right}
use Rattle.rule_types.specs.declared.condition.Right.TheVariants as right
use Rattle.rule_types.specs.declared.key.ClockAttr.{ClockAttr}
use Rattle.rule_types.specs.declared.key.Key.{Key}
use Rattle.rule_types.specs.declared.key.Key.TheVariants.{Object, Clock}
use Rattle.rule_types.specs.declared.names.NameDef.{NameDef}
use Rattle.rule_meaning.specs.Condition.{half_of, hours_of_step, second_truth}
use Rattle.clock_values.specs.Seconds.{passes_nowhere, passes_throughout}
use Rattle.moment_pieces.specs.Sides.{side_of}
use Rattle.verdict_meaning.specs.declared.cell.Cell.{Cell}
use Rattle.verdict_meaning.specs.declared.truth.Reach.{Reach}
use Rattle.verdict_meaning.specs.declared.truth.Reach.TheVariants.{Missing, Within}
use Rattle.verdict_meaning.specs.declared.truth.Truth.{Truth}
use Rattle.verdict_meaning.specs.declared.truth.Truth.TheVariants.{Yes, No, Open}
use Rattle.verdict_meaning.specs.ClockHulls.{in_one_day}
use Rattle.verdict_meaning.specs.Reaches.{left_reach, right_reach}

-- ---- all pairs of members of two intervals

-- whether each number below a high end is below each number above a low end: no number lies
-- between
unfoldable pub ends_below : Bound → Bound → Bool
ends_below end.NoBound low = false
ends_below (end.Bound p m) end.NoBound = false
ends_below (end.Bound p m) (end.Bound q n) = if m || n then not (less q p) else less p q

-- whether each number below a high end is at most each number above a low end
unfoldable pub ends_at_most : Bound → Bound → Bool
ends_at_most end.NoBound low = false
ends_at_most (end.Bound p m) end.NoBound = false
ends_at_most (end.Bound p m) (end.Bound q n) = not (less q p)

-- whether each member of an interval stands in a relation to each member of another
unfoldable pub all_relate : Relation → Interval → Interval → Bool
all_relate Eq a b = ends_at_most a.high b.low && ends_at_most b.high a.low
all_relate Ne a b = ends_below a.high b.low || ends_below b.high a.low
all_relate Lt a b = ends_below a.high b.low
all_relate Le a b = ends_at_most a.high b.low
all_relate Gt a b = ends_below b.high a.low
all_relate Ge a b = ends_at_most b.high a.low

-- the relation of the pairs that do not stand in a relation
abbrev pub contrary : Relation → Relation
contrary Eq = Ne
contrary Ne = Eq
contrary Lt = Ge
contrary Le = Gt
contrary Gt = Le
contrary Ge = Lt

-- an end that is later by so much, and one that is earlier
abbrev pub later_by : Rational → Bound → Bound
later_by by end.NoBound = end.NoBound
later_by by (end.Bound p m) = end.Bound (sum_of p by) m

abbrev pub earlier_by : Rational → Bound → Bound
earlier_by by end.NoBound = end.NoBound
earlier_by by (end.Bound p m) = end.Bound (difference_of p by) m

-- whether each time in an interval lies within half a step of each in another: at least that less
-- half a step, and below that and half a step; and whether none does
unfoldable pub all_within : Interval → Interval → Rational → Bool
all_within a b half =
    ends_at_most (earlier_by half b.high) a.low && ends_below a.high (later_by half b.low)

unfoldable pub none_within : Interval → Interval → Rational → Bool
none_within a b half =
    ends_below a.high (earlier_by half b.low) || ends_at_most (later_by half b.high) a.low

-- the same of a relation that is read within half a step of so many hours
unfoldable pub all_times_relate : Relation → Interval → Interval → Rational → Bool
all_times_relate Eq a b step = all_within a b (half_of step)
all_times_relate Ne a b step = none_within a b (half_of step)
all_times_relate relation a b step = all_relate relation a b

-- whether each pair of members meets a relation that is or is not read within half a step, and
-- whether none does
unfoldable pub all_meet : Bool → Relation → Rational → Interval → Interval → Bool
all_meet half_step relation step a b =
    if half_step then all_times_relate relation a b step else all_relate relation a b

unfoldable pub none_meet : Bool → Relation → Rational → Interval → Interval → Bool
none_meet half_step relation step a b = all_meet half_step (contrary relation) step a b

-- ---- conditions

-- what is known where no pair meets a condition, where each does, and whether each state has one
abbrev pub by_tests : Bool → Bool → Bool → Truth
by_tests none all sure = if none then No else (if all && sure then Yes else Open)

-- a condition between two sides, at a step in hours: No where a side is missing or no pair meets
-- it, Yes where both are present and each pair does
abbrev pub reach_truth : Condition → Rational → Reach → Reach → Truth
reach_truth c step Missing b = No
reach_truth c step (Within sure piece) Missing = No
reach_truth c step (Within sure piece) (Within certain other) =
    by_tests (none_meet c.half_step c.rel step piece other)
    (all_meet c.half_step c.rel step piece other) (sure && certain)

-- what is known of a test by the seconds from a first to a last one: No where it passes at none of
-- them, and so where there is none, and Yes where it passes at each
unfoldable pub seconds_truth : (ℤ → Bool) → ℤ → ℤ → Truth
seconds_truth test first last =
    if int_lt last first
    then No
    else by_tests (passes_nowhere test first (unsigned_abs (last -ℤ first)))
    (passes_throughout test first (unsigned_abs (last -ℤ first))) true

-- the condition on a key of the clock against a number, if it is one
abbrev pub on_clock : {A : Type 0} → Side → Right → (ClockAttr → Rational → A) → A → A
on_clock (side.Key (Clock attribute)) (right.Value q) clock other = clock attribute q
on_clock (side.Key (Clock attribute)) (right.Key key) clock other = other
on_clock (side.Key (Object object attribute)) right clock other = other
on_clock (side.Expr name) right clock other = other

-- such a condition within one civil day is decided by its seconds, else it is as all others are
abbrev pub by_moments : Option (ℤ × ℤ) → (ℤ → Bool) → Truth → Truth
by_moments None test other = other
by_moments (Some span) test other =
    if in_one_day span.0 span.1 then seconds_truth test span.0 span.1 else other

-- what is known of a condition in a box by its sides, from a start and at a step in seconds
unfoldable pub sides_truth : List NameDef → ℤ → Rational → Cell → Condition → Truth
sides_truth names start step cell c =
    reach_truth c (hours_of_step step) (left_reach names start cell c.left)
    (right_reach start cell c.right)

-- what is known of a condition in a box, from a start and at a step in seconds
unfoldable pub condition_truth : List NameDef → ℤ → Rational → Cell → Condition → Truth
condition_truth names start step cell c =
    on_clock (side_of names c.left) c.right
    (λ attribute q.
    by_moments cell.moments (second_truth c step attribute q start)
    (sides_truth names start step cell c))
    (sides_truth names start step cell c)
