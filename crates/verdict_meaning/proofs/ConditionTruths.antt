-- What is known of a condition in a box tells whether it holds at a state of the box.
use Rattle.std.proofs.Common.{◌≡◌, ℕ, Bool, true, false, not, ◌&&◌, Option, Some, None, Result, Ok}
use Rattle.std.proofs.Common.{Err, List, refl, sym, subst, ap, ◌∙◌, ◌≤◌, arith}
use Rattle.std.specs.Prelude.{IsTrue, IfOk, IfSome, ℤ, pos, ◌+ℤ◌, ◌-ℤ◌, ◌≤ℤ◌, int_lt}
use Rattle.std.specs.Prelude.{if◌then◌else◌, slice_get, unsigned_abs}
use Rattle.std.proofs.lemmas.Bool.{true≢false}
use Rattle.std.proofs.lemmas.Int.{ints}
use Rattle.exact_fraction.specs.Number.{Rational}
use Rattle.exact_fraction.proofs.PublicLaws.{order-reflexive}
use Rattle.interval_sets.specs.Intervals.{lies_in}
use Rattle.rule_types.specs.declared.condition.Condition.{Condition}
use Rattle.rule_types.specs.declared.condition.Side.{Side}
use Rattle.rule_types.specs.declared.condition.Side.TheVariants as side
use Rattle.rule_types.specs.declared.condition.Right.{Right}
use Rattle.rule_types.specs.declared.condition.Right.TheVariants as right
use Rattle.rule_types.specs.declared.key.ClockAttr.{ClockAttr}
use Rattle.rule_types.specs.declared.key.Key.{Key}
use Rattle.rule_types.specs.declared.key.Key.TheVariants.{Object, Clock}
use Rattle.rule_types.specs.declared.names.NameDef.{NameDef}
use Rattle.rule_types.specs.declared.names.NameKind.{NameKind}
use Rattle.rule_types.specs.declared.names.NameKind.TheVariants.{Variable, Formula}
use Rattle.rule_types.specs.declared.rules.Rules.{Rules}
use Rattle.rule_types.specs.declared.state.State.{State}
use Rattle.rule_meaning.specs.Clock.{clock_value}
use Rattle.rule_meaning.specs.Condition.{both_meet, holds, hours_of_step, left_value, named_value}
use Rattle.rule_meaning.specs.Condition.{number_of, right_value, second_truth}
use Rattle.rule_meaning.specs.Formula.{Derived, formula_value, kind_value}
use Rattle.rule_meaning.specs.State.{value}
use Rattle.clock_values.specs.Seconds.{passes_nowhere, passes_throughout}
use Rattle.clock_values.proofs.PublicLaws.{runs_of_seconds-nowhere, runs_of_seconds-throughout}
use Rattle.moment_pieces.specs.Sides.{kind_side, named_side, side_of}
use Rattle.verdict_meaning.specs.declared.cell.Cell.{Cell}
use Rattle.verdict_meaning.specs.declared.truth.Reach.{Reach}
use Rattle.verdict_meaning.specs.declared.truth.Reach.TheVariants.{Missing, Within}
use Rattle.verdict_meaning.specs.declared.truth.Truth.{Truth}
use Rattle.verdict_meaning.specs.declared.truth.Truth.TheVariants.{Yes, No, Open}
use Rattle.verdict_meaning.specs.Boxes.{IsMomentIn, IsStateIn}
use Rattle.verdict_meaning.specs.ClockHulls.{in_one_day}
use Rattle.verdict_meaning.specs.Premises.{start_of, Tells}
use Rattle.verdict_meaning.specs.Reaches.{formula_reach, IsReached, key_reach, kind_reach}
use Rattle.verdict_meaning.specs.Reaches.{left_reach, named_reach, right_reach}
use Rattle.verdict_meaning.specs.Truths.{by_moments, by_tests, condition_truth, on_clock}
use Rattle.verdict_meaning.specs.Truths.{seconds_truth, sides_truth}
use Rattle.verdict_meaning.proofs.FormulaReaches.{formula_reached, IsDerivedReach}
use Rattle.verdict_meaning.proofs.HullSigns.{in_closed}
use Rattle.verdict_meaning.proofs.KeyReaches.{key_reached}
use Rattle.verdict_meaning.proofs.SideTruths.{sides_tell}

-- what a name stands for gives a number or nothing
abbrev pub IsNumberOrNone : Derived → Type 0
IsNumberOrNone (Ok found) = Unit {0}
IsNumberOrNone (Err why) = ⊥

-- the same of the name on a side, if one stands there
abbrev pub NamedGoesOn : Rules → State → Option NameDef → Type 0
NamedGoesOn x s None = Unit {0}
NamedGoesOn x s (Some named) = IsNumberOrNone (kind_value x s named.stands_for)

abbrev pub SideGoesOn : Rules → State → Side → Type 0
SideGoesOn x s (side.Key key) = Unit {0}
SideGoesOn x s (side.Expr name) = NamedGoesOn x s (slice_get x.names name)

-- ---- sides
number_reached : (reach : Reach) (d : Derived) → IsDerivedReach reach d → IsNumberOrNone d
    → IsReached reach (number_of d)
number_reached reach (Ok found) h go = h
number_reached reach (Err why) h go = absurd go

kind_reached : (x : Rules) (s : State) (cell : Cell) → IsStateIn x cell s → (kind : NameKind)
    → IsNumberOrNone (kind_value x s kind)
    → IsReached (kind_reach x.names (start_of x) cell kind) (number_of (kind_value x s kind))
unfolding kind_reach kind_value
kind_reached x s cell h (Variable key) go = key_reached x s cell h key
kind_reached x s cell h (Formula formula) go =
    number_reached (formula_reach x.names (start_of x) cell formula) (formula_value x s formula)
    (formula_reached x s (start_of x) cell (key_reached x s cell h) formula) go

named_reached : (x : Rules) (s : State) (cell : Cell) → IsStateIn x cell s
    → (o : Option NameDef) → NamedGoesOn x s o
    → IsReached (named_reach x.names (start_of x) cell o) (named_value x s o)
unfolding named_reach named_value
named_reached x s cell h None go = refl
named_reached x s cell h (Some named) go = kind_reached x s cell h named.stands_for go

pub left_reached : (x : Rules) (s : State) (cell : Cell) → IsStateIn x cell s → (left : Side)
    → SideGoesOn x s left
    → IsReached (left_reach x.names (start_of x) cell left) (left_value x s left)
unfolding left_reach left_value
left_reached x s cell h (side.Key key) go = key_reached x s cell h key
left_reached x s cell h (side.Expr name) go =
    named_reached x s cell h (slice_get x.names name) go

pub right_reached : (x : Rules) (s : State) (cell : Cell) → IsStateIn x cell s
    → (other : Right)
    → IsReached (right_reach (start_of x) cell other) (right_value x s other)
unfolding right_reach right_value
right_reached x s cell h (right.Key key) = key_reached x s cell h key
right_reached x s cell h (right.Value q) =
    in_closed q q q (order-reflexive q) (order-reflexive q)

-- ---- by sides
sides_known : (x : Rules) (s : State) (cell : Cell) → IsStateIn x cell s → (c : Condition)
    → SideGoesOn x s c.left
    → Tells (sides_truth x.names (start_of x) x.routing_step cell c) (holds x s c)
unfolding sides_truth holds
sides_known x s cell h c go =
    subst
    (λ step.
    Tells (sides_truth x.names (start_of x) x.routing_step cell c)
    (both_meet c (hours_of_step step) (left_value x s c.left) (right_value x s c.right)))
    (sym h.state.step)
    (sides_tell c (hours_of_step x.routing_step) (left_reach x.names (start_of x) cell c.left)
    (right_reach (start_of x) cell c.right) (left_value x s c.left) (right_value x s c.right)
    (left_reached x s cell h c.left go) (right_reached x s cell h c.right))

-- ---- by seconds
-- the moment is so many seconds after the first one
pub record IsWithin (first last moment : ℤ) : Type 0 where
  pub after : ℕ
  pub is : moment ≡ first +ℤ pos after
  pub most : after ≤ unsigned_abs (last -ℤ first)

within_span : (first last moment : ℤ) → first ≤ℤ moment → moment ≤ℤ last
    → IsWithin first last moment
within_span first last moment h g = record {
  after = unsigned_abs (moment -ℤ first);
  is = omega (arith, ints, h, g);
  most = omega (arith, ints, h, g);
}

tests_tell : (test : ℤ → Bool) (first last moment : ℤ) → IsWithin first last moment
    → (none all : Bool) → passes_nowhere test first (unsigned_abs (last -ℤ first)) ≡ none
    → passes_throughout test first (unsigned_abs (last -ℤ first)) ≡ all
    → Tells (by_tests none all true) (test moment)
tests_tell test first last moment k true all e g =
    ap test k.is
    ∙ (runs_of_seconds-nowhere test first (unsigned_abs (last -ℤ first))).0 e k.after k.most
tests_tell test first last moment k false true e g =
    ap test k.is
    ∙ (runs_of_seconds-throughout test first (unsigned_abs (last -ℤ first))).0 g k.after k.most
tests_tell test first last moment k false false e g = tt

seconds_by : (test : ℤ → Bool) (first last moment : ℤ) → first ≤ℤ moment → moment ≤ℤ last
    → (b : Bool) → int_lt last first ≡ b
    → Tells
    (if b
    then No
    else by_tests (passes_nowhere test first (unsigned_abs (last -ℤ first)))
    (passes_throughout test first (unsigned_abs (last -ℤ first))) true)
    (test moment)
seconds_by test first last moment h g true e = absurd (omega (arith, ints, h, g, e))
seconds_by test first last moment h g false e =
    tests_tell test first last moment (within_span first last moment h g)
    (passes_nowhere test first (unsigned_abs (last -ℤ first)))
    (passes_throughout test first (unsigned_abs (last -ℤ first))) refl refl

seconds_tell : (test : ℤ → Bool) (first last moment : ℤ) → first ≤ℤ moment → moment ≤ℤ last
    → Tells (seconds_truth test first last) (test moment)
unfolding seconds_truth
seconds_tell test first last moment h g =
    seconds_by test first last moment h g (int_lt last first) refl

day_tells : (test : ℤ → Bool) (other : Truth) (span : ℤ × ℤ) (moment : ℤ) (b : Bool)
    → IsMomentIn span moment → Tells other (test moment)
    → Tells (if b then seconds_truth test span.0 span.1 else other) (test moment)
day_tells test other span moment true k h =
    seconds_tell test span.0 span.1 moment k.from_first k.to_last
day_tells test other span moment false k h = h

moments_tell : (test : ℤ → Bool) (other : Truth) (o : Option (ℤ × ℤ)) (moment : ℤ)
    → IfSome o (λ span. IsMomentIn span moment) → Tells other (test moment)
    → Tells (by_moments o test other) (test moment)
moments_tell test other None moment k h = h
moments_tell test other (Some span) moment k h =
    day_tells test other span moment (in_one_day span.0 span.1) k h

-- ---- conditions of the clock
kind_clock : (x : Rules) (s : State) (name : ℕ) (kind : NameKind) (key : Key)
    → kind_side name kind ≡ side.Key key → number_of (kind_value x s kind) ≡ value x s key
unfolding kind_value
kind_clock x s name (Variable one) key e = ap (value x s) (grind arith)
kind_clock x s name (Formula formula) key e = grind arith

named_clock : (x : Rules) (s : State) (name : ℕ) (o : Option NameDef) (key : Key)
    → named_side name o ≡ side.Key key → named_value x s o ≡ value x s key
unfolding named_value
named_clock x s name None key e = grind arith
named_clock x s name (Some named) key e = kind_clock x s name named.stands_for key e

side_clock : (x : Rules) (s : State) (left : Side) (key : Key)
    → side_of x.names left ≡ side.Key key → left_value x s left ≡ value x s key
unfolding side_of left_value
side_clock x s (side.Key one) key e = ap (value x s) (grind arith)
side_clock x s (side.Expr name) key e = named_clock x s name (slice_get x.names name) key e

-- at a state with the rules' step and start such a condition holds where it does at the second
clock_holds : (x : Rules) (s : State) (c : Condition) (attribute : ClockAttr) (q : Rational)
    (step : Rational) (start : ℤ) → side_of x.names c.left ≡ side.Key (Clock attribute)
    → c.right ≡ right.Value q → s.step ≡ step → s.start ≡ start
    → second_truth c step attribute q start s.moment ≡ holds x s c
unfolding second_truth holds right_value value
clock_holds x s c attribute q step start e g k l =
    let left : left_value x s c.left ≡ Some (clock_value attribute s.start s.moment) =
    side_clock x s c.left (Clock attribute) e in
    let other : right_value x s c.right ≡ Some q = ap (right_value x s) g in
    subst
    (λ one. second_truth c one attribute q start s.moment ≡ holds x s c) k
    (subst
    (λ one. second_truth c s.step attribute q one s.moment ≡ holds x s c) l
    (sym
    (ap (λ v. both_meet c (hours_of_step s.step) v (right_value x s c.right)) left
    ∙ ap
    (λ v.
    both_meet c (hours_of_step s.step) (Some (clock_value attribute s.start s.moment)) v)
    other)))

clock_truth : (x : Rules) (s : State) (cell : Cell) → IsStateIn x cell s → (c : Condition)
    (other : Truth) → Tells other (holds x s c) → (attribute : ClockAttr) (q : Rational)
    → side_of x.names c.left ≡ side.Key (Clock attribute) → c.right ≡ right.Value q
    → (o : Option (ℤ × ℤ)) → IfSome o (λ span. IsMomentIn span s.moment)
    → IfSome o (λ span. s.start ≡ start_of x)
    → Tells
    (by_moments o (second_truth c x.routing_step attribute q (start_of x)) other) (holds x s c)
clock_truth x s cell h c other known attribute q e g None k l = known
clock_truth x s cell h c other known attribute q e g (Some span) k l =
    let same = clock_holds x s c attribute q x.routing_step (start_of x) e g h.state.step l in
    subst
    (Tells (by_moments (Some span) (second_truth c x.routing_step attribute q (start_of x)) other))
    same
    (moments_tell (second_truth c x.routing_step attribute q (start_of x)) other (Some span)
    s.moment k (subst (Tells other) (sym same) known))

-- ---- all conditions
condition_by : (x : Rules) (s : State) (cell : Cell) → IsStateIn x cell s → (c : Condition)
    (other : Truth) → Tells other (holds x s c) → (left : Side) (rhs : Right)
    → side_of x.names c.left ≡ left → c.right ≡ rhs
    → Tells
    (on_clock left rhs
    (λ attribute q.
    by_moments cell.moments (second_truth c x.routing_step attribute q (start_of x)) other)
    other)
    (holds x s c)
condition_by x s cell h c other known (side.Key (Clock attribute)) (right.Value q) e g =
    clock_truth x s cell h c other known attribute q e g cell.moments h.inside.moment
    h.state.start
condition_by x s cell h c other known (side.Key (Clock attribute)) (right.Key key) e g = known
condition_by x s cell h c other known (side.Key (Object object attribute)) rhs e g = known
condition_by x s cell h c other known (side.Expr name) rhs e g = known

pub condition_known : (x : Rules) (s : State) (cell : Cell) → IsStateIn x cell s
    → (c : Condition) → SideGoesOn x s c.left
    → Tells (condition_truth x.names (start_of x) x.routing_step cell c) (holds x s c)
unfolding condition_truth
condition_known x s cell h c go =
    condition_by x s cell h c (sides_truth x.names (start_of x) x.routing_step cell c)
    (sides_known x s cell h c go) (side_of x.names c.left) c.right refl refl
