-- The conditions of rules (SWMM 5.2 manual, [CONTROLS]).
use Rattle.std.specs.Prelude.{ℕ, Bool, true, false, ◌&&◌, List, Option, None, Some}
use Rattle.std.specs.Prelude.{Result, Ok, Err}
use Rattle.std.specs.Option.{option_map}
use Rattle.exact_fraction.specs.Number.{zero}
use Rattle.exact_fraction.specs.declared.relation.Relation.{Relation}
use Rattle.key_words.specs.Words.{attribute_of, clock_attribute}
use Rattle.object_index.specs.Objects.{Objects, resolution}
use Rattle.object_index.specs.declared.unresolved.Unresolved.{Unresolved}
use Rattle.object_index.specs.declared.unresolved.Unresolved.TheVariants as unresolved
use Rattle.rule_types.specs.WellFormed.{takes_half_step}
use Rattle.rule_types.specs.declared.condition.Condition.{Condition}
use Rattle.rule_types.specs.declared.condition.Right.{Right}
use Rattle.rule_types.specs.declared.condition.Right.TheVariants as right
use Rattle.rule_types.specs.declared.condition.Side.{Side}
use Rattle.rule_types.specs.declared.condition.Side.TheVariants as side
use Rattle.rule_types.specs.declared.key.Attr.{Attr}
use Rattle.rule_types.specs.declared.key.Attr.TheVariants as attributes
use Rattle.rule_types.specs.declared.key.ClockAttr.TheVariants as clock
use Rattle.rule_types.specs.declared.key.Key.{Key}
use Rattle.rule_types.specs.declared.key.Key.TheVariants as keys
use Rattle.rule_types.specs.declared.names.NameDef.{NameDef}
use Rattle.rule_types.specs.declared.names.NameKind.{NameKind}
use Rattle.rule_types.specs.declared.names.NameKind.TheVariants.{Variable, Formula}
use Rattle.rule_types.specs.declared.object.ObjectNo.{ObjectNo}
use Rattle.rule_types.specs.declared.object.ObjectWord.{ObjectWord}
use Rattle.rule_types.specs.declared.refusal.Cause.TheVariants.{UnknownObject, WrongKind}
use Rattle.rule_types.specs.declared.refusal.Cause.TheVariants.{UnknownAttribute, UnknownName}
use Rattle.control_lines.specs.Faults.{Checked, then_with, both, or_fault, fault_of}
use Rattle.control_lines.specs.Statements.{KeyText, Object, Clock, SideText, Key as KeySide, Single}
use Rattle.control_lines.specs.Statements.{ConditionText}
use Rattle.control_lines.specs.declared.statement.ConditionWord.{ConditionWord}
use Rattle.control_lines.specs.declared.statement.ConditionWord.TheVariants as words
use Rattle.rule_parser.specs.Declarations.{name_place, kind_at, variable_key}
use Rattle.network_lines.specs.Values.{value_read}
use Rattle.network_lines.specs.declared.value.ValueKind.{ValueKind}
use Rattle.network_lines.specs.declared.value.ValueKind.TheVariants as values

-- ---- keys
-- the object that a word and a name give, or why there is none
abbrev pub object_from : Result ObjectNo Unresolved → List ℕ → Checked ObjectNo
object_from (Ok object) name = Ok object
object_from (Err unresolved.WrongKind) name = Err (fault_of WrongKind name)
object_from (Err other) name = Err (fault_of UnknownObject name)

abbrev pub object_read : Objects → ObjectWord → List ℕ → Checked ObjectNo
object_read objects word name = object_from (resolution objects word name) name

-- the key of an object, and the key of the clock
abbrev pub key_from : Checked ObjectNo → Checked Attr → Checked Key
key_from object attribute =
    then_with (λ (found : ObjectNo × Attr). keys.Object found.0 found.1) (both object attribute)

abbrev pub clock_key : List ℕ → Checked Key
clock_key item = then_with keys.Clock (or_fault (clock_attribute item) UnknownAttribute item)

-- the key that is written, or why there is none
unfoldable pub key_read : Objects → KeyText → Checked Key
key_read objects (Object written) =
    key_from (object_read objects written.word written.name)
    (or_fault (attribute_of written.word written.attribute) UnknownAttribute written.attribute)
key_read objects (Clock attribute) = clock_key attribute

-- ---- left sides
-- the side that a declared name is: a variable is its key, and an expression its place
abbrev pub side_of : Option NameKind → Option ℕ → Option Side
side_of (Some (Variable key)) place = Some (side.Key key)
side_of (Some (Formula formula)) place = option_map side.Expr place
side_of None place = None

abbrev pub named_side : List NameDef → List ℕ → Option Side
named_side names item =
    side_of (kind_at names (name_place names item)) (name_place names item)

-- the left side of a condition; a single item is a declared name
unfoldable pub left_read : Objects → List NameDef → SideText → Checked Side
left_read objects names (KeySide key) = then_with side.Key (key_read objects key)
left_read objects names (Single item) = or_fault (named_side names item) UnknownName item

-- ---- right sides
-- the kind of value that a key is compared with
abbrev pub kind_for : Key → ValueKind
kind_for (keys.Object object attributes.Status) = values.Status
kind_for (keys.Object object attributes.TimeOpen) = values.Time
kind_for (keys.Object object attributes.TimeClosed) = values.Time
kind_for (keys.Object object attribute) = values.Number
kind_for (keys.Clock clock.Time) = values.Time
kind_for (keys.Clock clock.ClockTime) = values.Time
kind_for (keys.Clock clock.Date) = values.Date
kind_for (keys.Clock clock.DayOfYear) = values.DayOfYear
kind_for (keys.Clock attribute) = values.Number

-- the kind of value that a left side is compared with
abbrev pub kind_wanted : Side → ValueKind
kind_wanted (side.Key key) = kind_for key
kind_wanted (side.Expr name) = values.Number

-- a single item on the right: the variable of this name, or else a value of the kind that the left
-- side is compared with; where the left side is at fault there is no such kind, and the item is not
-- looked at
abbrev pub value_right : Option Side → List ℕ → Checked Right
value_right None item = Ok (right.Value zero)
value_right (Some left) item = then_with right.Value (value_read (kind_wanted left) item)

abbrev pub item_right : Option Key → Option Side → List ℕ → Checked Right
item_right (Some key) left item = Ok (right.Key key)
item_right None left item = value_right left item

-- the right side of a condition with this left side
unfoldable pub right_read : Objects → List NameDef → Option Side → SideText → Checked Right
right_read objects names left (KeySide key) = then_with right.Key (key_read objects key)
right_read objects names left (Single item) = item_right (variable_key names item) left item

-- ---- conditions
-- the value of a part that is not at fault
abbrev pub if_read : {A : Type 0} → Checked A → Option A
if_read (Ok value) = Some value
if_read (Err fault) = None

abbrev pub is_value : Right → Bool
is_value (right.Key key) = false
is_value (right.Value q) = true

-- a condition begins a group behind IF and AND
abbrev pub begins_group : ConditionWord → Bool
begins_group words.If = true
begins_group words.And = true
begins_group words.Or = false

-- the condition of two sides
abbrev pub condition_of : ConditionWord → Relation → Side → Right → Condition
condition_of word relation left other = record {
  left = left;
  rel = relation;
  right = other;
  half_step = takes_half_step left relation && is_value other;
  joined_by_and = begins_group word;
}

-- the condition of two sides that are read
abbrev pub condition_from :
    ConditionWord → Relation → Checked Side → Checked Right → Checked Condition
condition_from word relation left other =
    then_with (λ (sides : Side × Right). condition_of word relation sides.0 sides.1)
    (both left other)

-- the condition that is written, over the objects and the names declared before, or what is
-- reported of it
unfoldable pub condition_read : Objects → List NameDef → ConditionText → Checked Condition
condition_read objects names written =
    condition_from written.word written.relation (left_read objects names written.left)
    (right_read objects names (if_read (left_read objects names written.left)) written.right)
