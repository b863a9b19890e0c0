-- Conditions and actions that are read fit, and name objects that there are.
use Rattle.std.proofs.Common.{◌≡◌, ℕ, ◌<◌, Bool, true, false, cond, List, [], ◌++◌, length, Option, None, Some, Ok, Err, refl, sym, subst, ◌∙◌}
use Rattle.std.specs.Prelude.{IfOk, IfSome, IsSome, IsTrue, ok_or, slice_get, All}
use Rattle.std.proofs.lemmas.Option.{slice_get_within, get_or_from_slice_get}
use Rattle.std.specs.List.{range_with_len}
use Rattle.exact_fraction.specs.declared.relation.Relation.{Relation}
use Rattle.exact_fraction.specs.Number.{Rational, zero}
use Rattle.exact_fraction.specs.Order.{◌≤ℚ◌}
use Rattle.key_words.specs.Words.{attribute_named, attribute_of, in_row, clock_attribute}
use Rattle.object_index.specs.Holding.{HoldsObject, HoldsKey, HoldsKind, HoldsSide, HoldsRight, HoldsCondition, HoldsLink}
use Rattle.object_index.specs.Objects.{Object, Objects, in_space, names_of, word_space, resolved, accepts_at}
use Rattle.object_index.specs.declared.unresolved.Unresolved.TheVariants as unresolved
use Rattle.rule_types.specs.Finding.{Found, Nothing, At, Several, finds}
use Rattle.rule_types.specs.Keys.{has_attribute, is_key}
use Rattle.rule_types.specs.Reading.{pid_of}
use Rattle.rule_types.specs.WellFormed.{IsTimeValue, IsTimeRight, SideFits, RightFits, ConditionFits, WhatFits, KindFits}
use Rattle.rule_types.specs.WellFormed.{is_time_side, takes_half_step, is_equality}
use Rattle.rule_types.proofs.PublicLaws.{fitting-half_step}
use Rattle.rule_types.specs.declared.action.Action.{Action}
use Rattle.rule_types.specs.declared.action.CurveNo.{CurveNo}
use Rattle.rule_types.specs.declared.action.SeriesNo.{SeriesNo}
use Rattle.rule_types.specs.declared.action.PidSet.{PidSet}
use Rattle.rule_types.specs.declared.action.What.{What}
use Rattle.rule_types.specs.declared.action.What.TheVariants as what
use Rattle.rule_types.specs.declared.condition.Condition.{Condition}
use Rattle.rule_types.specs.declared.condition.Right.{Right}
use Rattle.rule_types.specs.declared.condition.Right.TheVariants as right
use Rattle.rule_types.specs.declared.condition.Side.{Side}
use Rattle.rule_types.specs.declared.condition.Side.TheVariants as side
use Rattle.rule_types.specs.declared.key.Attr.{Attr}
use Rattle.rule_types.specs.declared.key.Attr.TheVariants as attributes
use Rattle.rule_types.specs.declared.key.ClockAttr.{ClockAttr}
use Rattle.rule_types.specs.declared.key.ClockAttr.TheVariants as clock
use Rattle.rule_types.specs.declared.key.Key.{Key}
use Rattle.rule_types.specs.declared.key.Key.TheVariants as keys
use Rattle.rule_types.specs.declared.names.NameDef.{NameDef}
use Rattle.rule_types.specs.declared.names.NameKind.{NameKind}
use Rattle.rule_types.specs.declared.names.NameKind.TheVariants.{Variable, Formula}
use Rattle.rule_types.specs.declared.object.ObjectNo.{ObjectNo}
use Rattle.rule_types.specs.declared.object.ObjectWord.{ObjectWord}
use Rattle.rule_types.specs.declared.object.ObjectWord.TheVariants as words
use Rattle.rule_types.specs.declared.object.Space.TheVariants.{Links}
use Rattle.rule_types.specs.declared.refusal.Cause.TheVariants.{UnknownAttribute}
use Rattle.control_lines.specs.Faults.{FaultText, Checked, both, then_with, or_fault, fault_of}
use Rattle.control_lines.specs.Statements.{KeyText, Object as ObjectText, Clock, SideText, Key as KeySide, Single, ConditionText, ActionText, ValueText, Plain, Curve, Series, Pid}
use Rattle.control_lines.specs.declared.statement.ConditionWord.{ConditionWord}
use Rattle.curves_series.specs.Names.{NamedTables}
use Rattle.network_lines.specs.Values.{value_read}
use Rattle.network_lines.specs.declared.value.ValueKind.TheVariants as values
use Rattle.network_lines.proofs.PublicLaws.{values-time, values-status, values-setting}
use Rattle.rule_parser.specs.Actions.{curve_read, series_read, pid_read, setting_read, status_read, value_set, set_by, can_set, action_from, action_read}
use Rattle.rule_parser.specs.Conditions.{object_from, object_read, key_read, side_of, named_side, left_read, kind_for, value_right, item_right, right_read, if_read, is_value, begins_group, condition_of, condition_from, condition_read}
use Rattle.rule_parser.specs.Declarations.{name_place, kind_at, key_of, variable_key}
use Rattle.rule_parser.specs.internal.Fitting.{NamesFitFirst}
use Rattle.rule_parser.proofs.Parts.{both_hold, then_holds, found_holds, first_true, second_true}

-- ---- objects and keys
-- an object that is found is there, in the space of its word
abbrev pub IsFound : Objects → ObjectWord → ObjectNo → Type 0
IsFound objects word object = (object.space ≡ word_space word) × HoldsObject objects object

held_at : (word : ObjectWord) (object : Option Object) → accepts_at word object ≡ true → IsSome object
held_at word None e = cc
held_at word (Some object) e = refl

from_found : (objects : Objects) (word : ObjectWord) (name : List ℕ) (index : ℕ) (accepted : Bool)
    → accepts_at word (slice_get (in_space objects (word_space word)) index) ≡ accepted
    → IfOk (object_from (cond accepted (Ok (record { space = word_space word; index = index })) (Err unresolved.WrongKind)) name)
    (IsFound objects word)
from_found objects word name index true e =
    (refl, held_at word (slice_get (in_space objects (word_space word)) index) e)
from_found objects word name index false e = tt

from_find : (objects : Objects) (word : ObjectWord) (name : List ℕ) (found : Found)
    → IfOk (object_from (resolved word (in_space objects (word_space word)) found) name) (IsFound objects word)
from_find objects word name Nothing = tt
from_find objects word name Several = tt
from_find objects word name (At index) =
    from_found objects word name index
    (accepts_at word (slice_get (in_space objects (word_space word)) index)) refl

pub object_found : (objects : Objects) (word : ObjectWord) (name : List ℕ)
    → IfOk (object_read objects word name) (IsFound objects word)
object_found objects word name =
    from_find objects word name (finds (names_of (in_space objects (word_space word))) name)

-- an attribute that is read is one that the objects of the word's space have
in_row_has : (word : ObjectWord) (attribute : Option Attr)
    → IfSome (in_row word attribute) (λ a. IsTrue (has_attribute (word_space word) a))
in_row_has word None = tt
in_row_has word (Some attribute) = by_test (has_attribute (word_space word) attribute) refl
  where
    by_test : (b : Bool) → has_attribute (word_space word) attribute ≡ b
        → IfSome (cond b (Some attribute) None) (λ a. IsTrue (has_attribute (word_space word) a))
    by_test true e = e
    by_test false e = tt

-- a key is one that its object can have, and its object is there
abbrev pub IsKeyOf : Objects → Key → Type 0
IsKeyOf objects key = IsTrue (is_key key) × HoldsKey objects key

key_of_object : (objects : Objects) (word : ObjectWord) (object : ObjectNo) (attribute : Attr)
    → IsFound objects word object → IsTrue (has_attribute (word_space word) attribute)
    → IsKeyOf objects (keys.Object object attribute)
key_of_object objects word object attribute h k =
    (subst (λ space. IsTrue (has_attribute space attribute)) (sym h.0) k, h.1)

clock_fits : (objects : Objects) (attribute : Option ClockAttr) (fault : FaultText)
    → IfOk (then_with keys.Clock (ok_or attribute fault)) (IsKeyOf objects)
clock_fits objects (Some attribute) fault = (refl, tt)
clock_fits objects None fault = tt

pub key_fits : (objects : Objects) (key : KeyText) → IfOk (key_read objects key) (IsKeyOf objects)
unfolding key_read
key_fits objects (ObjectText written) =
    then_holds (λ (found : ObjectNo × Attr). IsFound objects written.word found.0 × IsTrue (has_attribute (word_space written.word) found.1))
    (IsKeyOf objects) (λ (found : ObjectNo × Attr). keys.Object found.0 found.1)
    (both (object_read objects written.word written.name) (or_fault (attribute_of written.word written.attribute) UnknownAttribute written.attribute))
    (both_hold (IsFound objects written.word) (λ a. IsTrue (has_attribute (word_space written.word) a))
    (object_read objects written.word written.name)
    (or_fault (attribute_of written.word written.attribute) UnknownAttribute written.attribute)
    (object_found objects written.word written.name)
    (found_holds (λ a. IsTrue (has_attribute (word_space written.word) a)) (attribute_of written.word written.attribute)
    (fault_of UnknownAttribute written.attribute) (in_row_has written.word (attribute_named written.attribute))))
    (λ found h. key_of_object objects written.word found.0 found.1 h.0 h.1)
key_fits objects (Clock attribute) =
    clock_fits objects (clock_attribute attribute) (fault_of UnknownAttribute attribute)

-- ---- declared names
pub all_at : {A : Type 0} (P : A → Type 0) (xs : List A) (k : ℕ) (x : A) → All P xs
    → slice_get xs k ≡ Some x → P x
all_at P xs k x h e =
    subst P (get_or_from_slice_get xs k x x e) (h k x (slice_get_within xs k x e))

-- a declared name gives a side that fits
abbrev pub IsSideOf : Objects → List NameDef → Side → Type 0
IsSideOf objects names left = SideFits names left × HoldsSide objects left

kind_fits : (names : List NameDef) (place : ℕ) (named : NameDef) → NamesFitFirst names
    → slice_get names place ≡ Some named → KindFits (names ++ []) place named.stands_for
kind_fits names place named h e = h [] place named e

side_at : (objects : Objects) (names : List NameDef) (place : ℕ) (kind : NameKind)
    → KindFits (names ++ []) place kind → HoldsKind objects kind → place < length names
    → IfSome (side_of (Some kind) (Some place)) (IsSideOf objects names)
side_at objects names place (Variable key) h k l = (h, k)
side_at objects names place (Formula formula) h k l = (l, tt)

side_found : (objects : Objects) (names : List NameDef) (place : ℕ) (named : Option NameDef)
    → NamesFitFirst names → All (λ named. HoldsKind objects named.stands_for) names
    → slice_get names place ≡ named
    → IfSome (side_of (kind_at names (Some place)) (Some place)) (IsSideOf objects names)
side_found objects names place (Some named) h k e =
    rw e (side_at objects names place named.stands_for (kind_fits names place named h e)
    (all_at (λ named. HoldsKind objects named.stands_for) names place named k e)
    (slice_get_within names place named e))
side_found objects names place None h k e = rw e tt

side_placed : (objects : Objects) (names : List NameDef) (place : Option ℕ)
    → NamesFitFirst names → All (λ named. HoldsKind objects named.stands_for) names
    → IfSome (side_of (kind_at names place) place) (IsSideOf objects names)
side_placed objects names (Some place) h k = side_found objects names place (slice_get names place) h k refl
side_placed objects names None h k = tt

key_at_name : (objects : Objects) (kind : NameKind) (names : List NameDef) (place : ℕ)
    → KindFits (names ++ []) place kind → HoldsKind objects kind
    → IfSome (key_of (Some kind)) (IsKeyOf objects)
key_at_name objects (Variable key) names place h k = (h, k)
key_at_name objects (Formula formula) names place h k = tt

key_found : (objects : Objects) (names : List NameDef) (place : ℕ) (named : Option NameDef)
    → NamesFitFirst names → All (λ named. HoldsKind objects named.stands_for) names
    → slice_get names place ≡ named → IfSome (key_of (kind_at names (Some place))) (IsKeyOf objects)
key_found objects names place (Some named) h k e =
    rw e (key_at_name objects named.stands_for names place (kind_fits names place named h e)
    (all_at (λ named. HoldsKind objects named.stands_for) names place named k e))
key_found objects names place None h k e = rw e tt

key_placed : (objects : Objects) (names : List NameDef) (place : Option ℕ)
    → NamesFitFirst names → All (λ named. HoldsKind objects named.stands_for) names
    → IfSome (key_of (kind_at names place)) (IsKeyOf objects)
key_placed objects names (Some place) h k = key_found objects names place (slice_get names place) h k refl
key_placed objects names None h k = tt

-- ---- sides of conditions
side_of_key : (objects : Objects) (names : List NameDef) (read : Checked Key)
    → IfOk read (IsKeyOf objects) → IfOk (then_with side.Key read) (IsSideOf objects names)
side_of_key objects names (Ok key) h = h
side_of_key objects names (Err fault) h = tt

pub left_fits : (objects : Objects) (names : List NameDef) (written : SideText)
    → NamesFitFirst names → All (λ named. HoldsKind objects named.stands_for) names
    → IfOk (left_read objects names written) (IsSideOf objects names)
unfolding left_read
left_fits objects names (KeySide key) h k =
    side_of_key objects names (key_read objects key) (key_fits objects key)
left_fits objects names (Single item) h k =
    found_holds (IsSideOf objects names) (named_side names item) _
    (side_placed objects names (name_place names item) h k)

-- a right side fits, and is a time value where the left side is a time
abbrev pub IsTimed : Side → Right → Type 0
IsTimed left other = IsTrue (is_time_side left) → IsTrue (is_value other) → IsTimeRight other

abbrev pub IsRightOf : Objects → Right → Type 0
IsRightOf objects other = RightFits other × HoldsRight objects other

-- a right side behind a left side that is read, or is not
abbrev pub IsRightBehind : Objects → Option Side → Right → Type 0
IsRightBehind objects left other = IsRightOf objects other × IfSome left (λ left. IsTimed left other)

timed_key : (left : Option Side) (key : Key) → IfSome left (λ left. IsTimed left (right.Key key))
timed_key (Some left) key = λ h k. cc
timed_key None key = tt

right_of_key : (objects : Objects) (left : Option Side) (read : Checked Key)
    → IfOk read (IsKeyOf objects) → IfOk (then_with right.Key read) (IsRightBehind objects left)
right_of_key objects left (Ok key) h = (h, timed_key left key)
right_of_key objects left (Err fault) h = tt

-- a value behind a left side that is no time, and behind one that is a time
untimed : (objects : Objects) (left : Side) (read : Checked Rational) → is_time_side left ≡ false
    → IfOk (then_with right.Value read) (IsRightBehind objects (Some left))
untimed objects left (Ok q) e = ((tt, tt), λ h k. cc)
untimed objects left (Err fault) e = tt

timed : (objects : Objects) (left : Side) (read : Checked Rational) → IfOk read IsTimeValue
    → IfOk (then_with right.Value read) (IsRightBehind objects (Some left))
timed objects left (Ok q) h = ((tt, tt), λ e k. h)
timed objects left (Err fault) h = tt

behind_key : (objects : Objects) (key : Key) (item : List ℕ)
    → IfOk (then_with right.Value (value_read (kind_for key) item)) (IsRightBehind objects (Some (side.Key key)))
behind_key objects (keys.Object o attributes.TimeOpen) item = timed objects (side.Key (keys.Object o attributes.TimeOpen)) (value_read values.Time item) (values-time item)
behind_key objects (keys.Object o attributes.TimeClosed) item = timed objects (side.Key (keys.Object o attributes.TimeClosed)) (value_read values.Time item) (values-time item)
behind_key objects (keys.Clock clock.Time) item = timed objects (side.Key (keys.Clock clock.Time)) (value_read values.Time item) (values-time item)
behind_key objects (keys.Clock clock.ClockTime) item = timed objects (side.Key (keys.Clock clock.ClockTime)) (value_read values.Time item) (values-time item)
behind_key objects (keys.Clock clock.Date) item = untimed objects (side.Key (keys.Clock clock.Date)) (value_read values.Date item) refl
behind_key objects (keys.Clock clock.Month) item = untimed objects (side.Key (keys.Clock clock.Month)) (value_read values.Number item) refl
behind_key objects (keys.Clock clock.Day) item = untimed objects (side.Key (keys.Clock clock.Day)) (value_read values.Number item) refl
behind_key objects (keys.Clock clock.DayOfYear) item = untimed objects (side.Key (keys.Clock clock.DayOfYear)) (value_read values.DayOfYear item) refl
behind_key objects (keys.Object o attributes.Status) item = untimed objects (side.Key (keys.Object o attributes.Status)) (value_read values.Status item) refl
behind_key objects (keys.Object o attributes.Intensity) item = untimed objects (side.Key (keys.Object o attributes.Intensity)) (value_read values.Number item) refl
behind_key objects (keys.Object o (attributes.HourDepth hours)) item = untimed objects (side.Key (keys.Object o (attributes.HourDepth hours))) (value_read values.Number item) refl
behind_key objects (keys.Object o attributes.Depth) item = untimed objects (side.Key (keys.Object o attributes.Depth)) (value_read values.Number item) refl
behind_key objects (keys.Object o attributes.MaxDepth) item = untimed objects (side.Key (keys.Object o attributes.MaxDepth)) (value_read values.Number item) refl
behind_key objects (keys.Object o attributes.FullDepth) item = untimed objects (side.Key (keys.Object o attributes.FullDepth)) (value_read values.Number item) refl
behind_key objects (keys.Object o attributes.Head) item = untimed objects (side.Key (keys.Object o attributes.Head)) (value_read values.Number item) refl
behind_key objects (keys.Object o attributes.Volume) item = untimed objects (side.Key (keys.Object o attributes.Volume)) (value_read values.Number item) refl
behind_key objects (keys.Object o attributes.Inflow) item = untimed objects (side.Key (keys.Object o attributes.Inflow)) (value_read values.Number item) refl
behind_key objects (keys.Object o attributes.Flow) item = untimed objects (side.Key (keys.Object o attributes.Flow)) (value_read values.Number item) refl
behind_key objects (keys.Object o attributes.FullFlow) item = untimed objects (side.Key (keys.Object o attributes.FullFlow)) (value_read values.Number item) refl
behind_key objects (keys.Object o attributes.Velocity) item = untimed objects (side.Key (keys.Object o attributes.Velocity)) (value_read values.Number item) refl
behind_key objects (keys.Object o attributes.Length) item = untimed objects (side.Key (keys.Object o attributes.Length)) (value_read values.Number item) refl
behind_key objects (keys.Object o attributes.Slope) item = untimed objects (side.Key (keys.Object o attributes.Slope)) (value_read values.Number item) refl
behind_key objects (keys.Object o attributes.Setting) item = untimed objects (side.Key (keys.Object o attributes.Setting)) (value_read values.Number item) refl

value_behind : (objects : Objects) (left : Option Side) (item : List ℕ)
    → IfOk (value_right left item) (IsRightBehind objects left)
value_behind objects None item = ((tt, tt), tt)
value_behind objects (Some (side.Key key)) item = behind_key objects key item
value_behind objects (Some (side.Expr name)) item =
    untimed objects (side.Expr name) (value_read values.Number item) refl

item_behind : (objects : Objects) (variable : Option Key) (left : Option Side) (item : List ℕ)
    → IfSome variable (IsKeyOf objects) → IfOk (item_right variable left item) (IsRightBehind objects left)
item_behind objects (Some key) left item h = (h, timed_key left key)
item_behind objects None left item h = value_behind objects left item

pub right_fits : (objects : Objects) (names : List NameDef) (left : Option Side) (written : SideText)
    → NamesFitFirst names → All (λ named. HoldsKind objects named.stands_for) names
    → IfOk (right_read objects names left written) (IsRightBehind objects left)
unfolding right_read
right_fits objects names left (KeySide key) h k =
    right_of_key objects left (key_read objects key) (key_fits objects key)
right_fits objects names left (Single item) h k =
    item_behind objects (variable_key names item) left item
    (key_placed objects names (name_place names item) h k)

-- ---- conditions
abbrev pub IsConditionOf : Objects → List NameDef → ConditionWord → Condition → Type 0
IsConditionOf objects names word condition =
    ConditionFits names condition × HoldsCondition objects condition
    × (condition.joined_by_and ≡ begins_group word)

two_sides : (objects : Objects) (names : List NameDef) (word : ConditionWord) (relation : Relation)
    (left : Side) (other : Right) → IsSideOf objects names left → IsRightOf objects other → IsTimed left other
    → IsConditionOf objects names word (condition_of word relation left other)
two_sides objects names word relation left other h k t = (
  record {
    left = h.0;
    right = k.0;
    half_step = λ e.
        let takes = first_true (takes_half_step left relation) (is_value other) e in
        let written = second_true (takes_half_step left relation) (is_value other) e in
        fitting-half_step (condition_of word relation left other) takes
        (t (first_true (is_time_side left) (is_equality relation) takes) written);
  },
  record { left = h.1; right = k.1 },
  refl,
)

sides_fit : (objects : Objects) (names : List NameDef) (word : ConditionWord) (relation : Relation)
    (left : Checked Side) (other : Checked Right) → IfOk left (IsSideOf objects names)
    → IfOk other (IsRightBehind objects (if_read left))
    → IfOk (condition_from word relation left other) (IsConditionOf objects names word)
unfolding both
sides_fit objects names word relation (Ok left) (Ok other) h k =
    two_sides objects names word relation left other h k.0 k.1
sides_fit objects names word relation (Ok left) (Err fault) h k = tt
sides_fit objects names word relation (Err fault) (Ok other) h k = tt
sides_fit objects names word relation (Err fault) (Err other) h k = tt

pub condition_fits : (objects : Objects) (names : List NameDef) (written : ConditionText)
    → NamesFitFirst names → All (λ named. HoldsKind objects named.stands_for) names
    → IfOk (condition_read objects names written) (IsConditionOf objects names written.word)
unfolding condition_read
condition_fits objects names written h k =
    sides_fit objects names written.word written.relation (left_read objects names written.left)
    (right_read objects names (if_read (left_read objects names written.left)) written.right)
    (left_fits objects names written.left h k)
    (right_fits objects names (if_read (left_read objects names written.left)) written.right h k)

-- ---- actions
-- what an action sets fits, and a PID action has the next number
abbrev pub IsWhatOf : ℕ → What → Type 0
IsWhatOf pids value = WhatFits value × (pid_of value ≡ range_with_len pids (length (pid_of value)))

constant_fits : (pids : ℕ) (read : Checked Rational) → IfOk read (λ q. zero ≤ℚ q)
    → IfOk (then_with what.Constant read) (IsWhatOf pids)
constant_fits pids (Ok q) h = (h, refl)
constant_fits pids (Err fault) h = tt

curve_fits : (pids : ℕ) (read : Checked CurveNo) → IfOk (then_with what.Curve read) (IsWhatOf pids)
curve_fits pids (Ok number) = (tt, refl)
curve_fits pids (Err fault) = tt

series_fits : (pids : ℕ) (read : Checked SeriesNo) → IfOk (then_with what.Series read) (IsWhatOf pids)
series_fits pids (Ok number) = (tt, refl)
series_fits pids (Err fault) = tt

pid_fits : (pids : ℕ) (read : Checked PidSet) → IfOk (then_with (λ set. what.Pid set pids) read) (IsWhatOf pids)
pid_fits pids (Ok set) = (tt, refl)
pid_fits pids (Err fault) = tt

setting_fits : (tables : NamedTables) (pids : ℕ) (value : ValueText)
    → IfOk (setting_read tables pids value) (IsWhatOf pids)
setting_fits tables pids (Plain item) = constant_fits pids (value_read values.Setting item) (values-setting item)
setting_fits tables pids (Curve table) = curve_fits pids (curve_read tables table.name)
setting_fits tables pids (Series table) = series_fits pids (series_read tables table.name)
setting_fits tables pids (Pid pid) = pid_fits pids (pid_read pid)

status_fits : (pids : ℕ) (value : ValueText) → IfOk (status_read value) (IsWhatOf pids)
status_fits pids (Plain item) = constant_fits pids (value_read values.Status item) (values-status item)
status_fits pids (Curve table) = tt
status_fits pids (Series table) = tt
status_fits pids (Pid pid) = tt

-- a link of the word can be set
abbrev pub IsSetOf : ObjectWord → ℕ → What → Type 0
IsSetOf word pids value = IsWhatOf pids value × (word_space word ≡ Links)

with_space : (word : ObjectWord) (pids : ℕ) (read : Checked What) → word_space word ≡ Links
    → IfOk read (IsWhatOf pids) → IfOk read (IsSetOf word pids)
with_space word pids (Ok value) e h = (h, e)
with_space word pids (Err fault) e h = tt

links_set : (word : ObjectWord) (attribute : Attr) → can_set word attribute ≡ true → word_space word ≡ Links
links_set words.Gage attribute e = cc
links_set words.Node attribute e = cc
links_set words.Link attribute e = cc
links_set words.Conduit attribute e = refl
links_set words.Pump attribute e = refl
links_set words.Orifice attribute e = refl
links_set words.Weir attribute e = refl
links_set words.Outlet attribute e = refl

value_fits : (tables : NamedTables) (pids : ℕ) (attribute : Attr) (value : ValueText)
    → IfOk (value_set tables pids attribute value) (IsWhatOf pids)
value_fits tables pids attributes.Status value = status_fits pids value
value_fits tables pids attributes.Intensity value = setting_fits tables pids value
value_fits tables pids (attributes.HourDepth hours) value = setting_fits tables pids value
value_fits tables pids attributes.Depth value = setting_fits tables pids value
value_fits tables pids attributes.MaxDepth value = setting_fits tables pids value
value_fits tables pids attributes.FullDepth value = setting_fits tables pids value
value_fits tables pids attributes.Head value = setting_fits tables pids value
value_fits tables pids attributes.Volume value = setting_fits tables pids value
value_fits tables pids attributes.Inflow value = setting_fits tables pids value
value_fits tables pids attributes.Flow value = setting_fits tables pids value
value_fits tables pids attributes.FullFlow value = setting_fits tables pids value
value_fits tables pids attributes.Velocity value = setting_fits tables pids value
value_fits tables pids attributes.Length value = setting_fits tables pids value
value_fits tables pids attributes.Slope value = setting_fits tables pids value
value_fits tables pids attributes.Setting value = setting_fits tables pids value
value_fits tables pids attributes.TimeOpen value = setting_fits tables pids value
value_fits tables pids attributes.TimeClosed value = setting_fits tables pids value

set_fits : (tables : NamedTables) (pids : ℕ) (word : ObjectWord) (attribute : Option Attr)
    (item : List ℕ) (value : ValueText)
    → IfOk (set_by tables pids word attribute item value) (IsSetOf word pids)
set_fits tables pids word None item value = tt
set_fits tables pids word (Some attribute) item value = by_test (can_set word attribute) refl
  where
    by_test : (b : Bool) → can_set word attribute ≡ b
        → IfOk (cond b (value_set tables pids attribute value) (Err (fault_of UnknownAttribute item))) (IsSetOf word pids)
    by_test true e =
        with_space word pids (value_set tables pids attribute value) (links_set word attribute e)
        (value_fits tables pids attribute value)
    by_test false e = tt

-- an action that is read
abbrev pub IsActionOf : Objects → ℕ → Action → Type 0
IsActionOf objects pids action = IsWhatOf pids action.what × HoldsLink objects action.link

action_of : (objects : Objects) (word : ObjectWord) (pids : ℕ) (object : ObjectNo) (value : What)
    → IsFound objects word object → IsSetOf word pids value
    → IsActionOf objects pids (record { link = object.index; what = value })
action_of objects word pids object value h k = (
  k.0,
  subst (λ space. HoldsObject objects (record { space = space; index = object.index }))
      (h.0 ∙ k.1) h.1,
)

parts_fit : (objects : Objects) (word : ObjectWord) (pids : ℕ) (object : Checked ObjectNo)
    (value : Checked What) → IfOk object (IsFound objects word) → IfOk value (IsSetOf word pids)
    → IfOk (action_from object value) (IsActionOf objects pids)
unfolding both
parts_fit objects word pids (Ok object) (Ok value) h k = action_of objects word pids object value h k
parts_fit objects word pids (Ok object) (Err fault) h k = tt
parts_fit objects word pids (Err fault) (Ok value) h k = tt
parts_fit objects word pids (Err fault) (Err other) h k = tt

pub action_fits : (objects : Objects) (tables : NamedTables) (pids : ℕ) (written : ActionText)
    → IfOk (action_read objects tables pids written) (IsActionOf objects pids)
unfolding action_read
action_fits objects tables pids written =
    parts_fit objects written.target.word pids
    (object_read objects written.target.word written.target.name)
    (set_by tables pids written.target.word (attribute_named written.target.attribute)
    written.target.attribute written.value)
    (object_found objects written.target.word written.target.name)
    (set_fits tables pids written.target.word (attribute_named written.target.attribute)
    written.target.attribute written.value)
