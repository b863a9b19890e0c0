-- What a key can be worth in a box holds what it is worth at a state of the box.
use Rattle.std.proofs.Common.{◌≡◌, Bool, true, false, not, ◌&&◌, Option, Some, None, List, []}
use Rattle.std.proofs.Common.{◌∷◌, refl, sym, subst, ap, ◌∙◌, arith}
use Rattle.std.specs.Prelude.{IsTrue, IfSome, ℤ, pos, ◌≤ℤ◌, if◌then◌else◌, option_and_then}
use Rattle.std.specs.List.{All}
use Rattle.std.specs.Option.{is_some}
use Rattle.std.specs.Ordering.{int_eq}
use Rattle.std.proofs.lemmas.Bool.{and_parts, not-true, true≢false}
use Rattle.std.proofs.lemmas.Bool.Decides.{Decides-int_eq}
use Rattle.std.proofs.lemmas.Int.{ints}
use Rattle.std.proofs.lemmas.List.Elements.{All-head, All-tail}
use Rattle.exact_fraction.specs.Number.{Rational, one, whole, zero}
use Rattle.exact_fraction.specs.Order.{◌≤ℚ◌, less, same}
use Rattle.exact_fraction.proofs.PublicLaws.{order-antisymmetric, order-same_is_at_most}
use Rattle.exact_fraction.proofs.PublicLaws.{order-transitive, tests-not_less, tests-same}
use Rattle.interval_sets.specs.declared.interval.Bound.{Bound}
use Rattle.interval_sets.specs.declared.interval.Bound.TheVariants as end
use Rattle.interval_sets.specs.declared.interval.Interval.{Interval}
use Rattle.interval_sets.specs.Intervals.{lies_in, whole_line, IsAbove, IsBelow}
use Rattle.interval_sets.proofs.PublicLaws.{intervals-inside}
use Rattle.rule_types.specs.declared.key.Attr.{Attr}
use Rattle.rule_types.specs.declared.key.Attr.TheVariants.{Intensity, HourDepth, Depth, MaxDepth}
use Rattle.rule_types.specs.declared.key.Attr.TheVariants.{FullDepth, Head, Volume, Inflow, Flow}
use Rattle.rule_types.specs.declared.key.Attr.TheVariants.{FullFlow, Velocity, Length, Slope}
use Rattle.rule_types.specs.declared.key.Attr.TheVariants.{Setting, Status, TimeOpen, TimeClosed}
use Rattle.rule_types.specs.declared.key.ClockAttr.{ClockAttr}
use Rattle.rule_types.specs.declared.key.ClockAttr.TheVariants.{Time, Date, Month, Day, ClockTime}
use Rattle.rule_types.specs.declared.key.ClockAttr.TheVariants.{DayOfYear}
use Rattle.rule_types.specs.declared.key.Key.{Key}
use Rattle.rule_types.specs.declared.key.Key.TheVariants.{Object, Clock}
use Rattle.rule_types.specs.declared.object.ObjectNo.{ObjectNo}
use Rattle.rule_types.specs.declared.rules.Rules.{Rules}
use Rattle.rule_types.specs.declared.state.LinkState.{LinkState}
use Rattle.rule_types.specs.declared.state.State.{State}
use Rattle.rule_types.specs.Fitting.{LinkFits}
use Rattle.rule_types.proofs.PublicLaws.{equal_keys-key}
use Rattle.rule_meaning.specs.Clock.{clock_value, day_of}
use Rattle.rule_meaning.specs.Formula.{step_of}
use Rattle.rule_meaning.specs.State.{link_state, link_value, status_of, value}
use Rattle.rule_meaning.proofs.PublicLaws.{clock_bounds-clock_time, clock_order-date}
use Rattle.rule_meaning.proofs.PublicLaws.{day_seconds-bounds, day_seconds-whole}
use Rattle.rule_meaning.proofs.PublicLaws.{links_by_place-fits}
use Rattle.clock_values.proofs.PublicLaws.{clock_hulls-month, clock_hulls-one_day}
use Rattle.clock_values.proofs.PublicLaws.{clock_hulls-time, clock_hulls-week_day}
use Rattle.clock_values.proofs.PublicLaws.{clock_hulls-year_day}
use Rattle.verdict_meaning.specs.declared.cell.Cell.{Cell}
use Rattle.verdict_meaning.specs.declared.truth.Reach.{Reach}
use Rattle.verdict_meaning.specs.declared.truth.Reach.TheVariants.{Missing, Within}
use Rattle.verdict_meaning.specs.Boxes.{HasKey, IsEntryOf, IsMomentIn, IsStateIn, IsTimer}
use Rattle.verdict_meaning.specs.ClockHulls.{all_values, clock_hull, in_one_day, span_hull}
use Rattle.verdict_meaning.specs.ClockHulls.{value_span}
use Rattle.verdict_meaning.specs.Hulls.{closed, step_hull}
use Rattle.verdict_meaning.specs.Premises.{start_of}
use Rattle.verdict_meaning.specs.Reaches.{closed_reach, is_point_zero, is_zero_end, IsReached}
use Rattle.verdict_meaning.specs.Reaches.{key_reach, open_reach, over, piece_in, present, same_key}
use Rattle.verdict_meaning.specs.Reaches.{timer_reach}
use Rattle.verdict_meaning.proofs.HullSigns.{in_closed, not_zero_above, same_lies, step_inside}

-- ---- the entries of a box
pub record FoundKey (x : Rules) (s : State) (key : Key) (piece : Interval) : Type 0 where
  pub entry : IsEntryOf x s (key, piece)
  pub has : HasKey x s key

found_step : (x : Rules) (s : State) (key : Key) (piece : Interval) (entry : Key × Interval)
    (more : List (Key × Interval)) (b : Bool) → same_key key entry.0 ≡ b
    → IsEntryOf x s entry → HasKey x s entry.0
    → (if b then Some entry.1 else piece_in key more) ≡ Some piece
    → (piece_in key more ≡ Some piece → FoundKey x s key piece)
    → FoundKey x s key piece
found_step x s key piece entry more true e h g is later =
    let same_piece : entry.1 ≡ piece = grind arith in
    let its_key : entry.0 ≡ key = sym ((equal_keys-key key entry.0).0 e) in
    record {
      entry =
          subst (λ k. IsEntryOf x s (k, piece)) its_key
          (subst (λ one. IsEntryOf x s (entry.0, one)) same_piece h);
      has = subst (HasKey x s) its_key g;
    }
found_step x s key piece entry more false e h g is later = later is

pub found_key : (x : Rules) (s : State) (key : Key) (piece : Interval)
    (keys : List (Key × Interval)) → All (IsEntryOf x s) keys
    → All (λ entry. HasKey x s entry.0) keys → piece_in key keys ≡ Some piece
    → FoundKey x s key piece
unfolding piece_in
found_key x s key piece [] h g is = grind arith
found_key x s key piece (entry ∷ more) h g is =
    found_step x s key piece entry more (same_key key entry.0) refl
    (All-head (IsEntryOf x s) entry more h) (All-head (λ one. HasKey x s one.0) entry more g) is
    (found_key x s key piece more (All-tail (IsEntryOf x s) entry more h)
    (All-tail (λ one. HasKey x s one.0) entry more g))

in_box : (x : Rules) (s : State) (cell : Cell) → IsStateIn x cell s → (key : Key)
    (piece : Interval) → piece_in key cell.keys ≡ Some piece → FoundKey x s key piece
in_box x s cell h key piece is =
    found_key x s key piece cell.keys h.inside.keys h.state.present is

-- ---- keys that each state has
plain_by : (x : Rules) (s : State) (key : Key) → (IsTimer key → ⊥) → (o : Option Interval)
    → ((piece : Interval) → o ≡ Some piece → FoundKey x s key piece) → (v : Option Rational)
    → value x s key ≡ v → IsReached (present o) v
plain_by x s key never None found None e = refl
plain_by x s key never None found (Some q) e = refl
plain_by x s key never (Some piece) found None e = absurd (never ((found piece refl).has e))
plain_by x s key never (Some piece) found (Some q) e =
    subst (λ o. IfSome o (λ p. IsTrue (lies_in piece p))) e (found piece refl).entry

plain_reached : (x : Rules) (s : State) (cell : Cell) → IsStateIn x cell s → (key : Key)
    → (IsTimer key → ⊥) → IsReached (present (piece_in key cell.keys)) (value x s key)
plain_reached x s cell h key never =
    plain_by x s key never (piece_in key cell.keys) (in_box x s cell h key) (value x s key) refl

-- ---- STATUS
status_by : (o : Option Interval) (l : Option LinkState)
    → IsReached (present o) (option_and_then (link_value Setting) l)
    → IsReached (over step_hull (present o)) (option_and_then (link_value Status) l)
unfolding link_value status_of step_of
status_by None None h = refl
status_by None (Some link) h = step_inside whole_line link.setting refl
status_by (Some piece) None h = h
status_by (Some piece) (Some link) h = step_inside piece link.setting h

status_reached : (x : Rules) (s : State) (cell : Cell) → IsStateIn x cell s → (object : ObjectNo)
    → IsReached (over step_hull (present (piece_in (Object object Setting) cell.keys)))
    (value x s (Object object Status))
unfolding value
status_reached x s cell h object =
    status_by (piece_in (Object object Setting) cell.keys) (link_state x s object.index)
    (plain_reached x s cell h (Object object Setting) (λ timer. timer))

-- ---- timers
timer_tells : (missing sure : Bool) (t : Option Interval) (v : Option Rational)
    → (missing ≡ true → v ≡ None) → (sure ≡ true → v ≡ None → ⊥)
    → IfSome v (λ q. IfSome t (λ piece. IsTrue (lies_in piece q)))
    → IsReached (timer_reach missing sure t) v
timer_tells true sure None v f g k = f refl
timer_tells true sure (Some piece) v f g k = f refl
timer_tells false sure None None f g k = refl
timer_tells false sure None (Some q) f g k = refl
timer_tells false true (Some piece) None f g k = absurd (g refl refl)
timer_tells false false (Some piece) None f g k = refl
timer_tells false sure (Some piece) (Some q) f g k = k

zero_high : (high : Bound) (p : Rational) → is_zero_end high ≡ true → IsBelow high p → p ≤ℚ zero
zero_high end.NoBound p e h = absurd (true≢false (sym e))
zero_high (end.Bound q true) p e h = absurd (true≢false (sym e))
zero_high (end.Bound q false) p e h =
    order-transitive p q zero h (order-same_is_at_most q zero ((tests-same q zero).0 e)).0

zero_low : (low : Bound) (p : Rational) → is_zero_end low ≡ true → IsAbove low p → zero ≤ℚ p
zero_low end.NoBound p e h = absurd (true≢false (sym e))
zero_low (end.Bound q true) p e h = absurd (true≢false (sym e))
zero_low (end.Bound q false) p e h =
    order-transitive zero q p (order-same_is_at_most q zero ((tests-same q zero).0 e)).1 h

at_zero : (piece : Interval) (p : Rational) → is_point_zero piece ≡ true
    → IsTrue (lies_in piece p) → (p ≤ℚ zero) × (zero ≤ℚ p)
at_zero piece p e i =
    let parts = and_parts (is_zero_end piece.low) (is_zero_end piece.high) e in
    let inside = (intervals-inside piece p).0 i in
    (zero_high piece.high p parts.1 inside.below, zero_low piece.low p parts.0 inside.above)

no_some : (v : Rational) → Some v ≡ None → ⊥
no_some v e = true≢false (ap is_some e)

if_none : (b : Bool) (v : Rational) → b ≡ false → (if b then Some v else None) ≡ None
if_none b v e = rw e refl

if_not_none : (b : Bool) (v : Rational) → b ≡ true → (if b then Some v else None) ≡ None → ⊥
if_not_none true v e g = no_some v g
if_not_none false v e g = true≢false (sym e)

open_missing : (setting : Interval) (l : Option LinkState)
    → IsReached (Within true setting) (option_and_then (link_value Setting) l)
    → is_point_zero setting ≡ true → option_and_then (link_value TimeOpen) l ≡ None
unfolding link_value
open_missing setting None h e = refl
open_missing setting (Some link) h e =
    if_none (less zero link.setting) link.timer
    ((tests-not_less zero link.setting).1 (at_zero setting link.setting e h).0)

open_sure : (setting : Interval) (l : Option LinkState)
    → IsReached (Within true setting) (option_and_then (link_value Setting) l)
    → IfSome l LinkFits → not (lies_in setting zero) ≡ true
    → option_and_then (link_value TimeOpen) l ≡ None → ⊥
unfolding link_value
open_sure setting None h fits e g = true≢false h
open_sure setting (Some link) h fits e g =
    if_not_none (less zero link.setting) link.timer
    (not_zero_above setting link.setting fits.setting h (not-true (lies_in setting zero) e)
    (less zero link.setting) refl)
    g

open_by : (o t : Option Interval) (l : Option LinkState)
    → IsReached (present o) (option_and_then (link_value Setting) l)
    → IfSome (option_and_then (link_value TimeOpen) l)
    (λ q. IfSome t (λ piece. IsTrue (lies_in piece q)))
    → IfSome l LinkFits → IsReached (open_reach o t) (option_and_then (link_value TimeOpen) l)
open_by None t l h k fits =
    timer_tells false false t (option_and_then (link_value TimeOpen) l)
    (λ e. absurd (true≢false (sym e))) (λ e g. true≢false (sym e)) k
open_by (Some setting) t l h k fits =
    timer_tells (is_point_zero setting) (not (lies_in setting zero)) t
    (option_and_then (link_value TimeOpen) l) (open_missing setting l h)
    (open_sure setting l h fits) k

closed_by : (setting : Interval) (p : Rational) (b : Bool) → same p zero ≡ b
    → IsTrue (lies_in setting p) → lies_in setting zero ≡ false → b ≡ false
closed_by setting p true e h none =
    let both = order-same_is_at_most p zero ((tests-same p zero).0 e) in
    absurd (true≢false (sym (same_lies setting p zero both.0 both.1 h) ∙ none))
closed_by setting p false e h none = refl

closed_missing : (setting : Interval) (l : Option LinkState)
    → IsReached (Within true setting) (option_and_then (link_value Setting) l)
    → not (lies_in setting zero) ≡ true → option_and_then (link_value TimeClosed) l ≡ None
unfolding link_value
closed_missing setting None h e = refl
closed_missing setting (Some link) h e =
    if_none (same link.setting zero) link.timer
    (closed_by setting link.setting (same link.setting zero) refl h
    (not-true (lies_in setting zero) e))

closed_sure : (setting : Interval) (l : Option LinkState)
    → IsReached (Within true setting) (option_and_then (link_value Setting) l)
    → is_point_zero setting ≡ true → option_and_then (link_value TimeClosed) l ≡ None → ⊥
unfolding link_value
closed_sure setting None h e g = true≢false h
closed_sure setting (Some link) h e g =
    let both = at_zero setting link.setting e h in
    if_not_none (same link.setting zero) link.timer
    ((tests-same link.setting zero).1 (order-antisymmetric link.setting zero both.0 both.1)) g

closed_at : (o t : Option Interval) (l : Option LinkState)
    → IsReached (present o) (option_and_then (link_value Setting) l)
    → IfSome (option_and_then (link_value TimeClosed) l)
    (λ q. IfSome t (λ piece. IsTrue (lies_in piece q)))
    → IsReached (closed_reach o t) (option_and_then (link_value TimeClosed) l)
closed_at None t l h k =
    timer_tells false false t (option_and_then (link_value TimeClosed) l)
    (λ e. absurd (true≢false (sym e))) (λ e g. true≢false (sym e)) k
closed_at (Some setting) t l h k =
    timer_tells (not (lies_in setting zero)) (is_point_zero setting) t
    (option_and_then (link_value TimeClosed) l) (closed_missing setting l h)
    (closed_sure setting l h) k

-- what the box has of a timer
timer_entry : (x : Rules) (s : State) (key : Key) (t : Option Interval)
    → ((piece : Interval) → t ≡ Some piece → FoundKey x s key piece) → (v : Option Rational)
    → value x s key ≡ v → IfSome v (λ q. IfSome t (λ piece. IsTrue (lies_in piece q)))
timer_entry x s key t found None e = tt
timer_entry x s key None found (Some q) e = tt
timer_entry x s key (Some piece) found (Some q) e =
    subst (λ o. IfSome o (λ p. IsTrue (lies_in piece p))) e (found piece refl).entry

open_reached : (x : Rules) (s : State) (cell : Cell) → IsStateIn x cell s → (object : ObjectNo)
    → IsReached
    (open_reach (piece_in (Object object Setting) cell.keys)
    (piece_in (Object object TimeOpen) cell.keys)) (value x s (Object object TimeOpen))
unfolding value
open_reached x s cell h object =
    open_by (piece_in (Object object Setting) cell.keys)
    (piece_in (Object object TimeOpen) cell.keys) (link_state x s object.index)
    (plain_reached x s cell h (Object object Setting) (λ timer. timer))
    (timer_entry x s (Object object TimeOpen) (piece_in (Object object TimeOpen) cell.keys)
    (in_box x s cell h (Object object TimeOpen)) (value x s (Object object TimeOpen)) refl)
    (links_by_place-fits x s object.index h.state.fits.link_values)

closed_reached : (x : Rules) (s : State) (cell : Cell) → IsStateIn x cell s → (object : ObjectNo)
    → IsReached
    (closed_reach (piece_in (Object object Setting) cell.keys)
    (piece_in (Object object TimeClosed) cell.keys)) (value x s (Object object TimeClosed))
unfolding value
closed_reached x s cell h object =
    closed_at (piece_in (Object object Setting) cell.keys)
    (piece_in (Object object TimeClosed) cell.keys) (link_state x s object.index)
    (plain_reached x s cell h (Object object Setting) (λ timer. timer))
    (timer_entry x s (Object object TimeClosed) (piece_in (Object object TimeClosed) cell.keys)
    (in_box x s cell h (Object object TimeClosed)) (value x s (Object object TimeClosed)) refl)

-- ---- the clock
same_day : (first moment last : ℤ) → first ≤ℤ moment → moment ≤ℤ last
    → day_of first ≡ day_of last → (day_of first ≡ day_of moment) × (day_of moment ≡ day_of last)
same_day first moment last h g e =
    let a = day_seconds-whole first in
    let b = day_seconds-whole moment in
    let c = day_seconds-whole last in
    let u = day_seconds-bounds first in
    let v = day_seconds-bounds moment in
    let w = day_seconds-bounds last in
    let one : day_of first ≡ day_of moment =
    omega (arith, ints, a, b, c, u.0, u.1, v.0, v.1, w.0, w.1, h, g, e) in
    (one, sym one ∙ e)

day_span : (attribute : ClockAttr) (start first moment last : ℤ) (b : Bool)
    → in_one_day first last ≡ b → first ≤ℤ moment → moment ≤ℤ last
    → IsTrue (lies_in (all_values attribute) (clock_value attribute start moment))
    → IsTrue (lies_in
    (if b then value_span attribute start first last else all_values attribute)
    (clock_value attribute start moment))
unfolding in_one_day value_span
day_span attribute start first moment last true e h g all =
    let days =
    same_day first moment last h g
    ((Decides-int_eq (day_of first) (day_of last)).0 e) in
    in_closed (clock_value attribute start first) (clock_value attribute start last)
    (clock_value attribute start moment)
    (clock_hulls-one_day attribute start first moment days.0 h)
    (clock_hulls-one_day attribute start moment last days.1 g)
day_span attribute start first moment last false e h g all = all

span_inside : (attribute : ClockAttr) (start first moment last : ℤ) → first ≤ℤ moment
    → moment ≤ℤ last
    → IsTrue (lies_in (span_hull attribute start first last) (clock_value attribute start moment))
unfolding span_hull value_span all_values
span_inside Time start first moment last h g =
    in_closed (clock_value Time start first) (clock_value Time start last)
    (clock_value Time start moment) (clock_hulls-time start first moment h)
    (clock_hulls-time start moment last g)
span_inside Date start first moment last h g =
    in_closed (clock_value Date start first) (clock_value Date start last)
    (clock_value Date start moment) (clock_order-date start first moment h)
    (clock_order-date start moment last g)
span_inside Month start first moment last h g =
    let bounds = clock_hulls-month start moment in
    day_span Month start first moment last (in_one_day first last) refl h g
    (in_closed one (whole (pos 12)) (clock_value Month start moment) bounds.0 bounds.1)
span_inside Day start first moment last h g =
    let bounds = clock_hulls-week_day start moment in
    day_span Day start first moment last (in_one_day first last) refl h g
    (in_closed one (whole (pos 7)) (clock_value Day start moment) bounds.0 bounds.1)
span_inside ClockTime start first moment last h g =
    let bounds = clock_bounds-clock_time start moment in
    day_span ClockTime start first moment last (in_one_day first last) refl h g
    ((intervals-inside (all_values ClockTime) (clock_value ClockTime start moment)).1
    (record { above = bounds.0; below = bounds.1 }))
span_inside DayOfYear start first moment last h g =
    let bounds = clock_hulls-year_day start moment in
    day_span DayOfYear start first moment last (in_one_day first last) refl h g
    (in_closed one (whole (pos 366)) (clock_value DayOfYear start moment) bounds.0 bounds.1)

clock_by : (attribute : ClockAttr) (start s_start moment : ℤ) (o : Option (ℤ × ℤ))
    → IfSome o (λ span. IsMomentIn span moment) → IfSome o (λ span. s_start ≡ start)
    → IsTrue (lies_in (clock_hull attribute start o) (clock_value attribute s_start moment))
unfolding clock_hull
clock_by attribute start s_start moment None h e = refl
clock_by attribute start s_start moment (Some span) h e =
    subst
    (λ begin.
    IsTrue (lies_in (span_hull attribute start span.0 span.1)
    (clock_value attribute begin moment)))
    (sym e) (span_inside attribute start span.0 moment span.1 h.from_first h.to_last)

clock_reached : (x : Rules) (s : State) (cell : Cell) → IsStateIn x cell s
    → (attribute : ClockAttr)
    → IsReached (Within true (clock_hull attribute (start_of x) cell.moments))
    (value x s (Clock attribute))
unfolding value
clock_reached x s cell h attribute =
    clock_by attribute (start_of x) s.start s.moment cell.moments h.inside.moment h.state.start

-- ---- all keys
pub key_reached : (x : Rules) (s : State) (cell : Cell) → IsStateIn x cell s → (key : Key)
    → IsReached (key_reach (start_of x) cell key) (value x s key)
unfolding key_reach
key_reached x s cell h (Object object Intensity) =
    plain_reached x s cell h (Object object Intensity) (λ timer. timer)
key_reached x s cell h (Object object (HourDepth hours)) =
    plain_reached x s cell h (Object object (HourDepth hours)) (λ timer. timer)
key_reached x s cell h (Object object Depth) =
    plain_reached x s cell h (Object object Depth) (λ timer. timer)
key_reached x s cell h (Object object MaxDepth) =
    plain_reached x s cell h (Object object MaxDepth) (λ timer. timer)
key_reached x s cell h (Object object FullDepth) =
    plain_reached x s cell h (Object object FullDepth) (λ timer. timer)
key_reached x s cell h (Object object Head) =
    plain_reached x s cell h (Object object Head) (λ timer. timer)
key_reached x s cell h (Object object Volume) =
    plain_reached x s cell h (Object object Volume) (λ timer. timer)
key_reached x s cell h (Object object Inflow) =
    plain_reached x s cell h (Object object Inflow) (λ timer. timer)
key_reached x s cell h (Object object Flow) =
    plain_reached x s cell h (Object object Flow) (λ timer. timer)
key_reached x s cell h (Object object FullFlow) =
    plain_reached x s cell h (Object object FullFlow) (λ timer. timer)
key_reached x s cell h (Object object Velocity) =
    plain_reached x s cell h (Object object Velocity) (λ timer. timer)
key_reached x s cell h (Object object Length) =
    plain_reached x s cell h (Object object Length) (λ timer. timer)
key_reached x s cell h (Object object Slope) =
    plain_reached x s cell h (Object object Slope) (λ timer. timer)
key_reached x s cell h (Object object Setting) =
    plain_reached x s cell h (Object object Setting) (λ timer. timer)
key_reached x s cell h (Object object Status) = status_reached x s cell h object
key_reached x s cell h (Object object TimeOpen) = open_reached x s cell h object
key_reached x s cell h (Object object TimeClosed) = closed_reached x s cell h object
key_reached x s cell h (Clock attribute) = clock_reached x s cell h attribute
