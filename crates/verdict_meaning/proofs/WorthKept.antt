-- What an action is worth at a state of a box lies in its hull there, or it is the old target.
use Rattle.std.proofs.Common.{◌≡◌, ℕ, Bool, true, false, not, ◌&&◌, ◌||◌, Option, Some, None, List}
use Rattle.std.proofs.Common.{Result, Ok, Err, ◌⊎◌, inl, inr, refl, sym, subst, ap, ◌∙◌, arith}
use Rattle.std.proofs.Common.{length, ◌-◌}
use Rattle.std.specs.Prelude.{IsTrue, IfOk, IfSome, IsSomeAnd, ℤ, ◌≤ℤ◌, if◌then◌else◌, slice_get}
use Rattle.std.specs.Prelude.{option_and_then}
use Rattle.std.proofs.lemmas.Bool.{and_parts, not-true, true≢false}
use Rattle.exact_fraction.specs.Number.{Rational, one, zero}
use Rattle.exact_fraction.specs.Order.{◌≤ℚ◌, ◌<ℚ◌, less, lesser_of}
use Rattle.exact_fraction.specs.declared.error.Overflow.{Overflow}
use Rattle.exact_fraction.proofs.PublicLaws.{order-at_most_below, order-below_at_most}
use Rattle.exact_fraction.proofs.PublicLaws.{order-below_is_at_most, order-lesser}
use Rattle.exact_fraction.proofs.PublicLaws.{order-reflexive, order-transitive, tests-less}
use Rattle.exact_fraction.proofs.PublicLaws.{tests-not_less}
use Rattle.interval_sets.specs.declared.interval.Bound.{Bound}
use Rattle.interval_sets.specs.declared.interval.Bound.TheVariants as end
use Rattle.interval_sets.specs.declared.interval.Interval.{Interval}
use Rattle.interval_sets.specs.Intervals.{begins_earlier, ends_earlier, lies_in, IsAbove, IsBelow}
use Rattle.interval_sets.proofs.PublicLaws.{intervals-inside}
use Rattle.rule_types.specs.declared.action.PidMemory.{PidMemory}
use Rattle.rule_types.specs.declared.action.PidSet.{PidSet}
use Rattle.rule_types.specs.declared.action.What.{What}
use Rattle.rule_types.specs.declared.action.What.TheVariants.{Constant, Curve, Series, Pid}
use Rattle.rule_types.specs.declared.condition.Condition.{Condition}
use Rattle.rule_types.specs.declared.rules.Rules.{Rules}
use Rattle.rule_types.specs.declared.state.State.{State}
use Rattle.rule_types.specs.Tables.{CurveTable, curve_at, HoldsTableOf, IsPointList, SeriesTable}
use Rattle.rule_types.specs.Tables.{series_at, TableSet}
use Rattle.rule_types.specs.WellFormed.{has_rate}
use Rattle.rule_meaning.specs.Condition.{left_value, right_value}
use Rattle.rule_meaning.specs.Pid.{IsPidValue, pid_step, Stepped}
use Rattle.rule_meaning.specs.StraightLines.{line_value, series_x}
use Rattle.rule_meaning.specs.Worth.{capped, controller_of, curve_worth, is_pump, last_of}
use Rattle.rule_meaning.specs.Worth.{minutes_of, old_target, pid_worth, rate_of, rule_pid}
use Rattle.rule_meaning.specs.Worth.{series_worth, set_point_of, value_stepped, what_worth}
use Rattle.rule_meaning.proofs.PublicLaws.{values-pids, values-tables}
use Rattle.table_hulls.specs.Hulls.{from_zero}
use Rattle.table_hulls.proofs.PublicLaws.{computed_values-curve, computed_values-series}
use Rattle.verdict_meaning.specs.declared.cell.Cell.{Cell}
use Rattle.verdict_meaning.specs.declared.truth.Reach.{Reach}
use Rattle.verdict_meaning.specs.declared.truth.Reach.TheVariants.{Missing, Within}
use Rattle.verdict_meaning.specs.ActionHulls.{can_keep, capped_high, capped_hull, capped_low}
use Rattle.verdict_meaning.specs.ActionHulls.{controller_reach, curve_over, is_missing, is_part_of}
use Rattle.verdict_meaning.specs.ActionHulls.{keeps_target, last_left, last_right, series_over}
use Rattle.verdict_meaning.specs.ActionHulls.{set_point_reach, stays_within, what_hull, worth_hull}
use Rattle.verdict_meaning.specs.Boxes.{IsMomentIn, IsStateIn}
use Rattle.verdict_meaning.specs.Hulls.{closed}
use Rattle.verdict_meaning.specs.Premises.{start_of}
use Rattle.verdict_meaning.specs.Reaches.{IsReached}
use Rattle.verdict_meaning.proofs.ConditionTruths.{left_reached, right_reached, SideGoesOn}
use Rattle.verdict_meaning.proofs.FormulaReaches.{some_none}
use Rattle.verdict_meaning.proofs.HullSigns.{in_closed}
use Rattle.verdict_meaning.proofs.Relations.{at_least_of, at_most_of}
use Rattle.verdict_meaning.proofs.Tests.{or_cases}

-- ---- a value lies in a hull, or it is the old target
abbrev pub Kept : Result Rational Overflow → Interval → Rational → Type 0
Kept result hull old = IfOk result (λ v. IsTrue (lies_in hull v)) ⊎ (result ≡ Ok old)

-- the left side of the last condition goes on, if there is one
abbrev pub LastGoesOn : Rules → State → Option Condition → Type 0
LastGoesOn x s None = Unit {0}
LastGoesOn x s (Some c) = SideGoesOn x s c.left

last_left_reached : (x : Rules) (s : State) (cell : Cell) → IsStateIn x cell s
    → (o : Option Condition) → LastGoesOn x s o
    → IsReached (last_left x cell o) (option_and_then (λ c. left_value x s c.left) o)
last_left_reached x s cell h None go = refl
last_left_reached x s cell h (Some c) go = left_reached x s cell h c.left go

controller_reached : (x : Rules) (s : State) (cell : Cell) → IsStateIn x cell s
    → (conditions : List Condition) → LastGoesOn x s (last_of conditions)
    → IsReached (controller_reach x cell conditions) (controller_of x s conditions)
unfolding controller_reach controller_of
controller_reached x s cell h conditions go =
    last_left_reached x s cell h (last_of conditions) go

last_right_reached : (x : Rules) (s : State) (cell : Cell) → IsStateIn x cell s
    → (o : Option Condition)
    → IsReached (last_right x cell o) (option_and_then (λ c. right_value x s c.right) o)
last_right_reached x s cell h None = refl
last_right_reached x s cell h (Some c) = right_reached x s cell h c.right

set_point_reached : (x : Rules) (s : State) (cell : Cell) → IsStateIn x cell s
    → (conditions : List Condition)
    → IsReached (set_point_reach x cell conditions) (set_point_of x s conditions)
unfolding set_point_reach set_point_of
set_point_reached x s cell h conditions = last_right_reached x s cell h (last_of conditions)

-- ---- curves and series
in_from_zero : (result : Result Rational Overflow) → IfOk result (λ y. zero ≤ℚ y)
    → IfOk result (λ y. IsTrue (lies_in from_zero y))
in_from_zero (Ok y) h = (intervals-inside from_zero y).1 (record { above = h; below = tt })
in_from_zero (Err why) h = tt

curve_kept : (o : Option CurveTable) → IsSomeAnd o (λ table. IsPointList table.points)
    → (reach : Reach) (controller : Option Rational) (old : Rational)
    → IsReached reach controller
    → Kept (curve_worth o controller old) (curve_over o reach) old
curve_kept None held reach controller old h = inr refl
curve_kept (Some curve) held reach None old h = inr refl
curve_kept (Some curve) held Missing (Some x) old h = absurd (some_none x h)
curve_kept (Some curve) held (Within sure over) (Some x) old h =
    inl (computed_values-curve curve.points over x held h)

series_span : (series : SeriesTable) → IsPointList series.points → (s : State) (start : ℤ)
    (span : ℤ × ℤ) → IsMomentIn span s.moment → s.start ≡ start
    → IfOk (line_value series.points (series_x series s.start s.moment))
    (λ y. IsTrue (lies_in (series_over (Some series) start (Some span)) y))
series_span series held s start span h e =
    subst
    (λ begin.
    IfOk (line_value series.points (series_x series begin s.moment))
    (λ y. IsTrue (lies_in (series_over (Some series) start (Some span)) y)))
    (sym e)
    (computed_values-series series start span.0 span.1 s.moment held h.from_first h.to_last)

series_kept : (o : Option SeriesTable) → IsSomeAnd o (λ table. IsPointList table.points)
    → (s : State) (start : ℤ) (moments : Option (ℤ × ℤ)) (old : Rational)
    → IfSome moments (λ span. IsMomentIn span s.moment)
    → IfSome moments (λ span. s.start ≡ start)
    → Kept (series_worth o s old) (series_over o start moments) old
series_kept None held s start moments old h e = inr refl
series_kept (Some series) held s start None old h e =
    inl
    (in_from_zero (line_value series.points (series_x series s.start s.moment))
    (values-tables series.points (series_x series s.start s.moment)))
series_kept (Some series) held s start (Some span) old h e =
    inl (series_span series held s start span h e)

-- ---- PIDs
pid_inside : (pump : Bool) (v : Rational) → IsPidValue pump v
    → IsTrue (lies_in (if pump then from_zero else closed zero one) v)
pid_inside true v h = (intervals-inside from_zero v).1 (record { above = h.least; below = tt })
pid_inside false v h = in_closed zero one v h.least (h.most refl)

stepped_inside : (pump : Bool) (r : Result Stepped Overflow)
    → IfOk r (λ stepped. IsPidValue pump stepped.value)
    → IfOk (value_stepped r)
    (λ v. IsTrue (lies_in (if pump then from_zero else closed zero one) v))
stepped_inside pump (Ok stepped) h = pid_inside pump stepped.value h
stepped_inside pump (Err why) h = tt

pid_kept : (set : PidSet) (controller set_point : Option Rational) (old seconds : Rational)
    (pump : Bool) (memory : PidMemory)
    → Kept (value_stepped (pid_worth set controller set_point old seconds pump memory))
    (if pump then from_zero else closed zero one) old
pid_kept set (Some x) (Some set_point) old seconds pump memory =
    inl
    (stepped_inside pump (pid_step set set_point x old (minutes_of seconds) pump memory)
    (values-pids set set_point x old (minutes_of seconds) pump memory))
pid_kept set (Some x) None old seconds pump memory = inr refl
pid_kept set None set_point old seconds pump memory = inr refl

-- ---- all actions
pub what_kept : (x : Rules) (tables : TableSet) (s : State) (memory : ℕ → PidMemory)
    (cell : Cell) → IsStateIn x cell s → (conditions : List Condition)
    → LastGoesOn x s (last_of conditions) → (link : ℕ) (what : What) → HoldsTableOf tables what
    → Kept (what_worth x tables s memory conditions link what)
    (what_hull x tables cell conditions link what) (old_target x s link)
unfolding what_worth what_hull rule_pid
what_kept x tables s memory cell h conditions go link (Constant q) held =
    inl (in_closed q q q (order-reflexive q) (order-reflexive q))
what_kept x tables s memory cell h conditions go link (Curve curve) held =
    curve_kept (curve_at tables curve.index) held (controller_reach x cell conditions)
    (controller_of x s conditions) (old_target x s link)
    (controller_reached x s cell h conditions go)
what_kept x tables s memory cell h conditions go link (Series series) held =
    series_kept (series_at tables series.index) held s (start_of x) cell.moments
    (old_target x s link) h.inside.moment h.state.start
what_kept x tables s memory cell h conditions go link (Pid set number) held =
    pid_kept set (controller_of x s conditions) (set_point_of x s conditions)
    (old_target x s link) s.step (is_pump x link) (memory number)

-- a side that is surely missing has no value
missing_none : (reach : Reach) (v : Option Rational) → is_missing reach ≡ true
    → IsReached reach v → v ≡ None
missing_none Missing v e h = h
missing_none (Within sure piece) v e h = absurd (true≢false (sym e))

curve_old : (o : Option CurveTable) (controller : Option Rational) (old : Rational)
    → controller ≡ None → curve_worth o controller old ≡ Ok old
curve_old None controller old e = refl
curve_old (Some curve) controller old e = rw e refl

pid_old : (set : PidSet) (controller set_point : Option Rational) (old seconds : Rational)
    (pump : Bool) (memory : PidMemory) → (controller ≡ None) ⊎ (set_point ≡ None)
    → value_stepped (pid_worth set controller set_point old seconds pump memory) ≡ Ok old
pid_old set None set_point old seconds pump memory e = refl
pid_old set (Some x) None old seconds pump memory e = refl
pid_old set (Some x) (Some set_point) old seconds pump memory (inl e) = absurd (some_none x e)
pid_old set (Some x) (Some set_point) old seconds pump memory (inr e) =
    absurd (some_none set_point e)

either_missing : (x : Rules) (s : State) (cell : Cell) → IsStateIn x cell s
    → (conditions : List Condition) → LastGoesOn x s (last_of conditions)
    → (is_missing (controller_reach x cell conditions) ≡ true)
    ⊎ (is_missing (set_point_reach x cell conditions) ≡ true)
    → (controller_of x s conditions ≡ None) ⊎ (set_point_of x s conditions ≡ None)
either_missing x s cell h conditions go (inl e) =
    inl
    (missing_none (controller_reach x cell conditions) (controller_of x s conditions) e
    (controller_reached x s cell h conditions go))
either_missing x s cell h conditions go (inr e) =
    inr
    (missing_none (set_point_reach x cell conditions) (set_point_of x s conditions) e
    (set_point_reached x s cell h conditions))

pub target_kept : (x : Rules) (tables : TableSet) (s : State) (memory : ℕ → PidMemory)
    (cell : Cell) → IsStateIn x cell s → (conditions : List Condition)
    → LastGoesOn x s (last_of conditions) → (link : ℕ) (what : What)
    → keeps_target x cell conditions what ≡ true
    → what_worth x tables s memory conditions link what ≡ Ok (old_target x s link)
unfolding what_worth keeps_target rule_pid
target_kept x tables s memory cell h conditions go link (Constant q) e =
    absurd (true≢false (sym e))
target_kept x tables s memory cell h conditions go link (Series series) e =
    absurd (true≢false (sym e))
target_kept x tables s memory cell h conditions go link (Curve curve) e =
    curve_old (curve_at tables curve.index) (controller_of x s conditions) (old_target x s link)
    (missing_none (controller_reach x cell conditions) (controller_of x s conditions) e
    (controller_reached x s cell h conditions go))
target_kept x tables s memory cell h conditions go link (Pid set number) e =
    pid_old set (controller_of x s conditions) (set_point_of x s conditions)
    (old_target x s link) s.step (is_pump x link) (memory number)
    (either_missing x s cell h conditions go
    (or_cases (is_missing (controller_reach x cell conditions))
    (is_missing (set_point_reach x cell conditions)) e))

-- ---- at most 1 on a link with a rate
cap : Rational → Rational → Rational
cap rate v = if has_rate rate then lesser_of one v else v

lesser_by : (v : Rational) (P : Rational → Type 0) → (v <ℚ one → P v) → (one ≤ℚ v → P one)
    → (b : Bool) → less v one ≡ b → P (if b then v else one)
lesser_by v P f g true e = f ((tests-less v one).0 e)
lesser_by v P f g false e = g ((tests-not_less v one).0 e)

above_cap : (p v : Rational) (m b c : Bool) → less p one ≡ b → less v one ≡ c
    → IsAbove (end.Bound p m) v
    → IsAbove (if b then end.Bound p m else end.Bound one false) (if c then v else one)
above_cap p v m true true e g h = h
above_cap p v true true false e g h = (tests-less p one).0 e
above_cap p v false true false e g h =
    order-below_is_at_most p one ((tests-less p one).0 e)
above_cap p v m false true e g h =
    order-transitive one p v ((tests-not_less p one).0 e) (at_least_of p m v h)
above_cap p v m false false e g h = order-reflexive one

low_cap : (low : Bound) (v : Rational) → IsAbove low v → IsAbove (capped_low low) (lesser_of one v)
unfolding capped_low
low_cap end.NoBound v h = tt
low_cap (end.Bound p m) v h = above_cap p v m (less p one) (less v one) refl refl h

at_most_one : (v : Rational) → lesser_of one v ≤ℚ one
at_most_one v = (order-lesser one v).0

below_cap : (p v : Rational) (m b c : Bool) → less one p ≡ b → less v one ≡ c
    → IsBelow (end.Bound p m) v
    → IsBelow (if b then end.Bound one false else end.Bound p m) (if c then v else one)
below_cap p v m true true e g h = order-below_is_at_most v one ((tests-less v one).0 g)
below_cap p v m true false e g h = order-reflexive one
below_cap p v m false true e g h = h
below_cap p v true false false e g h =
    order-at_most_below one v p ((tests-not_less v one).0 g) h
below_cap p v false false false e g h =
    order-transitive one v p ((tests-not_less v one).0 g) h

high_cap : (high : Bound) (v : Rational) → IsBelow high v
    → IsBelow (capped_high high) (lesser_of one v)
unfolding capped_high
high_cap end.NoBound v h = at_most_one v
high_cap (end.Bound p m) v h = below_cap p v m (less one p) (less v one) refl refl h

capped_by : (piece : Interval) (v : Rational) (b : Bool) → IsTrue (lies_in piece v)
    → IsTrue (lies_in
    (if b then record { low = capped_low piece.low; high = capped_high piece.high } else piece)
    (if b then lesser_of one v else v))
capped_by piece v true i =
    let inside = (intervals-inside piece v).0 i in
    (intervals-inside (record { low = capped_low piece.low; high = capped_high piece.high })
    (lesser_of one v)).1
    (record {
      above = low_cap piece.low v inside.above;
      below = high_cap piece.high v inside.below;
    })
capped_by piece v false i = i

pub capped_inside : (rate : Rational) (piece : Interval) (v : Rational)
    → IsTrue (lies_in piece v)
    → IsTrue (lies_in (capped_hull rate piece) (if has_rate rate then lesser_of one v else v))
unfolding capped_hull
capped_inside rate piece v i = capped_by piece v (has_rate rate) i

-- ---- from lo to hi
low_part : (low : Bound) (lo v : Rational) → not (begins_earlier low (end.Bound lo false)) ≡ true
    → IsAbove low v → lo ≤ℚ v
low_part end.NoBound lo v e h = absurd (true≢false (sym e))
low_part (end.Bound p true) lo v e h =
    order-transitive lo p v ((tests-not_less p lo).0 (not-true (less p lo) e))
    (order-below_is_at_most p v h)
low_part (end.Bound p false) lo v e h =
    order-transitive lo p v ((tests-not_less p lo).0 (not-true (less p lo) e)) h

high_part : (high : Bound) (hi v : Rational)
    → not (ends_earlier (end.Bound hi false) high) ≡ true → IsBelow high v → v ≤ℚ hi
high_part end.NoBound hi v e h = absurd (true≢false (sym e))
high_part (end.Bound q m) hi v e h =
    order-transitive v q hi (at_most_of q m v h)
    ((tests-not_less hi q).0 (not-true (less hi q) e))

pub part_inside : (piece : Interval) (lo hi v : Rational) → is_part_of piece lo hi ≡ true
    → IsTrue (lies_in piece v) → IsTrue (lies_in (closed lo hi) v)
unfolding is_part_of
part_inside piece lo hi v e i =
    let parts =
    and_parts (not (begins_earlier piece.low (end.Bound lo false)))
    (not (ends_earlier (end.Bound hi false) piece.high)) e in
    let inside = (intervals-inside piece v).0 i in
    in_closed lo hi v (low_part piece.low lo v parts.0 inside.above)
    (high_part piece.high hi v parts.1 inside.below)

-- a hull of numbers of at most 1 that lies from lo to hi shows that lo is at most 1
low_one_by : (p lo : Rational) (m b : Bool) → less p one ≡ b
    → not (begins_earlier (if b then end.Bound p m else end.Bound one false) (end.Bound lo false))
    ≡ true
    → lo ≤ℚ one
low_one_by p lo true true e g =
    order-transitive lo p one ((tests-not_less p lo).0 (not-true (less p lo) g))
    (order-below_is_at_most p one ((tests-less p one).0 e))
low_one_by p lo false true e g =
    order-transitive lo p one ((tests-not_less p lo).0 (not-true (less p lo) g))
    (order-below_is_at_most p one ((tests-less p one).0 e))
low_one_by p lo m false e g = (tests-not_less one lo).0 (not-true (less one lo) g)

low_one : (low : Bound) (lo : Rational)
    → not (begins_earlier (capped_low low) (end.Bound lo false)) ≡ true → lo ≤ℚ one
unfolding capped_low
low_one end.NoBound lo e = absurd (true≢false (sym e))
low_one (end.Bound p m) lo e = low_one_by p lo m (less p one) refl e

part_one_by : (b : Bool) (piece : Interval) (lo hi : Rational)
    → is_part_of
    (if b then record { low = capped_low piece.low; high = capped_high piece.high } else piece) lo
    hi ≡ true → b ≡ true → lo ≤ℚ one
unfolding is_part_of
part_one_by true piece lo hi e g =
    low_one piece.low lo
    (and_parts (not (begins_earlier (capped_low piece.low) (end.Bound lo false)))
    (not (ends_earlier (end.Bound hi false) (capped_high piece.high))) e).0
part_one_by false piece lo hi e g = absurd (true≢false (sym g))

part_one : (rate : Rational) (piece : Interval) (lo hi : Rational)
    → is_part_of (capped_hull rate piece) lo hi ≡ true → has_rate rate ≡ true → lo ≤ℚ one
unfolding capped_hull
part_one rate piece lo hi e g = part_one_by (has_rate rate) piece lo hi e g

-- an old target from lo to hi stays there
old_by : (b : Bool) (lo hi v : Rational) → IsTrue (lies_in (closed lo hi) v)
    → (b ≡ true → lo ≤ℚ one)
    → IsTrue (lies_in (closed lo hi) (if b then lesser_of one v else v))
old_by true lo hi v i f =
    let inside = (intervals-inside (closed lo hi) v).0 i in
    in_closed lo hi (lesser_of one v)
    (lesser_by v (λ r. lo ≤ℚ r) (λ e. inside.above) (λ e. f refl) (less v one) refl)
    (order-transitive (lesser_of one v) v hi (order-lesser one v).1 inside.below)
old_by false lo hi v i f = i

kept_within : (rate : Rational) (result : Result Rational Overflow) (old lo hi : Rational)
    → result ≡ Ok old → IsTrue (lies_in (closed lo hi) old)
    → (has_rate rate ≡ true → lo ≤ℚ one)
    → IfOk (capped rate result) (λ v. IsTrue (lies_in (closed lo hi) v))
kept_within rate result old lo hi e i f = rw e (old_by (has_rate rate) lo hi old i f)

within_by : (rate : Rational) (result : Result Rational Overflow) (hull : Interval)
    (old lo hi : Rational) → is_part_of (capped_hull rate hull) lo hi ≡ true
    → IsTrue (lies_in (closed lo hi) old) → Kept result hull old
    → IfOk (capped rate result) (λ v. IsTrue (lies_in (closed lo hi) v))
within_by rate (Err why) hull old lo hi e i k = tt
within_by rate (Ok v) hull old lo hi e i (inl h) =
    part_inside (capped_hull rate hull) lo hi (if has_rate rate then lesser_of one v else v) e
    (capped_inside rate hull v h)
within_by rate (Ok v) hull old lo hi e i (inr h) =
    kept_within rate (Ok v) old lo hi h i (part_one rate hull lo hi e)

can_keep_by : (b : Bool) (lo : Rational) → (not b || not (less one lo)) ≡ true → b ≡ true
    → lo ≤ℚ one
can_keep_by true lo e g = (tests-not_less one lo).0 (not-true (less one lo) e)
can_keep_by false lo e g = absurd (true≢false (sym g))

keep_one : (rate lo : Rational) → can_keep rate lo ≡ true → has_rate rate ≡ true → lo ≤ℚ one
unfolding can_keep
keep_one rate lo e g = can_keep_by (has_rate rate) lo e g

stays_by : (x : Rules) (tables : TableSet) (s : State) (memory : ℕ → PidMemory)
    (cell : Cell) → IsStateIn x cell s → (conditions : List Condition)
    → LastGoesOn x s (last_of conditions) → (link : ℕ) (what : What) → HoldsTableOf tables what
    → (lo hi : Rational) → IsTrue (lies_in (closed lo hi) (old_target x s link))
    → (is_part_of (worth_hull x tables cell conditions link what) lo hi ≡ true)
    ⊎ ((can_keep (rate_of x link) lo && keeps_target x cell conditions what) ≡ true)
    → IfOk (capped (rate_of x link) (what_worth x tables s memory conditions link what))
    (λ v. IsTrue (lies_in (closed lo hi) v))
unfolding worth_hull
stays_by x tables s memory cell h conditions go link what held lo hi i (inl e) =
    within_by (rate_of x link) (what_worth x tables s memory conditions link what)
    (what_hull x tables cell conditions link what) (old_target x s link) lo hi e i
    (what_kept x tables s memory cell h conditions go link what held)
stays_by x tables s memory cell h conditions go link what held lo hi i (inr e) =
    let parts = and_parts (can_keep (rate_of x link) lo) (keeps_target x cell conditions what) e in
    kept_within (rate_of x link) (what_worth x tables s memory conditions link what)
    (old_target x s link) lo hi
    (target_kept x tables s memory cell h conditions go link what parts.1) i
    (keep_one (rate_of x link) lo parts.0)

pub worth_stays : (x : Rules) (tables : TableSet) (s : State) (memory : ℕ → PidMemory)
    (cell : Cell) → IsStateIn x cell s → (conditions : List Condition)
    → LastGoesOn x s (last_of conditions) → (link : ℕ) (what : What) → HoldsTableOf tables what
    → (lo hi : Rational) → IsTrue (lies_in (closed lo hi) (old_target x s link))
    → stays_within x tables cell conditions link lo hi what ≡ true
    → IfOk (capped (rate_of x link) (what_worth x tables s memory conditions link what))
    (λ v. IsTrue (lies_in (closed lo hi) v))
unfolding stays_within
worth_stays x tables s memory cell h conditions go link what held lo hi i e =
    stays_by x tables s memory cell h conditions go link what held lo hi i
    (or_cases (is_part_of (worth_hull x tables cell conditions link what) lo hi)
    (can_keep (rate_of x link) lo && keeps_target x cell conditions what) e)
