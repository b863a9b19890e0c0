-- The words of control rules, each with the text that it is written as, and what an item is read
-- as: the word whose text it is when the case of ASCII letters is ignored (the words are those of
-- the SWMM 5.2 manual, [CONTROLS]).
use Rattle.std.specs.Prelude.{ℕ, ◌-◌, Bool, true, ◌&&◌, nat_le, List, [], ◌∷◌, ◌++◌, length}
use Rattle.std.specs.Prelude.{take, drop, codes}
use Rattle.std.specs.Prelude.{Option, None, Some, if◌then◌else◌}
use Rattle.std.specs.Fmt.{decimal}
use Rattle.std.specs.List.{find}
use Rattle.std.specs.Option.{option_or}
use Rattle.std.specs.Str.{str_eq_ignore_ascii_case}
use Rattle.exact_fraction.specs.Number.{Rational, zero, one}
use Rattle.exact_fraction.specs.declared.relation.Relation.{Relation}
use Rattle.exact_fraction.specs.declared.relation.Relation.TheVariants.{Eq, Ne, Lt, Le, Gt, Ge}
use Rattle.num_text.specs.Counts.{count_of}
use Rattle.object_index.specs.Objects.{word_space}
use Rattle.rule_types.specs.Keys.{has_attribute}
use Rattle.rule_types.specs.declared.object.ObjectWord.{ObjectWord}
use Rattle.rule_types.specs.declared.object.ObjectWord.TheVariants.{Gage, Node, Link, Conduit, Pump}
use Rattle.rule_types.specs.declared.object.ObjectWord.TheVariants.{Orifice, Weir, Outlet}
use Rattle.rule_types.specs.declared.key.Attr.{Attr}
use Rattle.rule_types.specs.declared.key.Attr.TheVariants.{Intensity, HourDepth, Depth, MaxDepth}
use Rattle.rule_types.specs.declared.key.Attr.TheVariants.{FullDepth, Head, Volume, Inflow, Flow}
use Rattle.rule_types.specs.declared.key.Attr.TheVariants.{FullFlow, Velocity, Length, Slope}
use Rattle.rule_types.specs.declared.key.Attr.TheVariants.{Setting, Status, TimeOpen, TimeClosed}
use Rattle.rule_types.specs.declared.key.ClockAttr.{ClockAttr}
use Rattle.rule_types.specs.declared.key.ClockAttr.TheVariants.{Time, Date, Month, Day, ClockTime}
use Rattle.rule_types.specs.declared.key.ClockAttr.TheVariants.{DayOfYear}
use Rattle.key_words.specs.declared.status.StatusWord.{StatusWord}
use Rattle.key_words.specs.declared.status.StatusWord.TheVariants.{On, Open, Off, Closed}

-- whether an item is a word, ignoring the case of ASCII letters
abbrev pub is_word : List ℕ → List ℕ → Bool
is_word item word = str_eq_ignore_ascii_case item word

-- ---- objects
abbrev pub object_text : ObjectWord → List ℕ
object_text Gage = codes "GAGE"
object_text Node = codes "NODE"
object_text Link = codes "LINK"
object_text Conduit = codes "CONDUIT"
object_text Pump = codes "PUMP"
object_text Orifice = codes "ORIFICE"
object_text Weir = codes "WEIR"
object_text Outlet = codes "OUTLET"

abbrev pub object_words : List ObjectWord
object_words = Gage ∷ Node ∷ Link ∷ Conduit ∷ Pump ∷ Orifice ∷ Weir ∷ Outlet ∷ []

unfoldable pub object_word : List ℕ → Option ObjectWord
object_word item = find (λ word. is_word item (object_text word)) object_words

-- the word of the clock's keys, which is no object's
abbrev pub simulation_text : List ℕ
simulation_text = codes "SIMULATION"

-- ---- attributes of objects
-- n-HR_DEPTH is the rainfall of the last n hours
abbrev pub hours_end : List ℕ
hours_end = codes "-HR_DEPTH"

abbrev pub attribute_text : Attr → List ℕ
attribute_text Intensity = codes "INTENSITY"
attribute_text (HourDepth hours) = decimal hours ++ hours_end
attribute_text Depth = codes "DEPTH"
attribute_text MaxDepth = codes "MAXDEPTH"
attribute_text FullDepth = codes "FULLDEPTH"
attribute_text Head = codes "HEAD"
attribute_text Volume = codes "VOLUME"
attribute_text Inflow = codes "INFLOW"
attribute_text Flow = codes "FLOW"
attribute_text FullFlow = codes "FULLFLOW"
attribute_text Velocity = codes "VELOCITY"
attribute_text Length = codes "LENGTH"
attribute_text Slope = codes "SLOPE"
attribute_text Setting = codes "SETTING"
attribute_text Status = codes "STATUS"
attribute_text TimeOpen = codes "TIMEOPEN"
attribute_text TimeClosed = codes "TIMECLOSED"

-- the attributes but for n-HR_DEPTH
abbrev pub plain_attributes : List Attr
plain_attributes =
    Intensity ∷ Depth ∷ MaxDepth ∷ FullDepth ∷ Head ∷ Volume ∷ Inflow ∷ Flow ∷ FullFlow
    ∷ Velocity ∷ Length ∷ Slope ∷ Setting ∷ Status ∷ TimeOpen ∷ TimeClosed ∷ []

unfoldable pub plain_attribute : List ℕ → Option Attr
plain_attribute item = find (λ attribute. is_word item (attribute_text attribute)) plain_attributes

-- n is from 1 to 48
abbrev pub are_hours : ℕ → Bool
are_hours hours = nat_le 1 hours && nat_le hours 48

-- an attribute has a word: n-HR_DEPTH where n is from 1 to 48, and each other
abbrev pub has_word : Attr → Bool
has_word (HourDepth hours) = are_hours hours
has_word attribute = true

abbrev pub over_hours : Option ℕ → Option Attr
over_hours None = None
over_hours (Some hours) = if are_hours hours then Some (HourDepth hours) else None

-- where the text before n-HR_DEPTH's end begins and ends
abbrev pub before_end : List ℕ → ℕ
before_end item = length item - length hours_end

-- n-HR_DEPTH: the end, and before it a number from 1 to 48 without leading zeros
unfoldable pub hour_depth : List ℕ → Option Attr
hour_depth item =
    if is_word (drop (before_end item) item) hours_end
    then over_hours (count_of (take (before_end item) item)) else None

unfoldable pub attribute_named : List ℕ → Option Attr
attribute_named item = option_or (plain_attribute item) (hour_depth item)

-- the attribute, where it stands in the row of an object's word
abbrev pub in_row : ObjectWord → Option Attr → Option Attr
in_row word None = None
in_row word (Some attribute) =
    if has_attribute (word_space word) attribute then Some attribute else None

abbrev pub attribute_of : ObjectWord → List ℕ → Option Attr
attribute_of word item = in_row word (attribute_named item)

-- ---- attributes of the clock
abbrev pub clock_text : ClockAttr → List ℕ
clock_text Time = codes "TIME"
clock_text Date = codes "DATE"
clock_text Month = codes "MONTH"
clock_text Day = codes "DAY"
clock_text ClockTime = codes "CLOCKTIME"
clock_text DayOfYear = codes "DAYOFYEAR"

abbrev pub clock_attributes : List ClockAttr
clock_attributes = Time ∷ Date ∷ Month ∷ Day ∷ ClockTime ∷ DayOfYear ∷ []

unfoldable pub clock_attribute : List ℕ → Option ClockAttr
clock_attribute item = find (λ attribute. is_word item (clock_text attribute)) clock_attributes

-- ---- relations
abbrev pub relation_text : Relation → List ℕ
relation_text Eq = codes "="
relation_text Ne = codes "<>"
relation_text Lt = codes "<"
relation_text Le = codes "<="
relation_text Gt = codes ">"
relation_text Ge = codes ">="

abbrev pub relations : List Relation
relations = Eq ∷ Ne ∷ Lt ∷ Le ∷ Gt ∷ Ge ∷ []

unfoldable pub relation_of : List ℕ → Option Relation
relation_of item = find (λ relation. is_word item (relation_text relation)) relations

-- ---- statuses
abbrev pub status_text : StatusWord → List ℕ
status_text On = codes "ON"
status_text Open = codes "OPEN"
status_text Off = codes "OFF"
status_text Closed = codes "CLOSED"

abbrev pub status_words : List StatusWord
status_words = On ∷ Open ∷ Off ∷ Closed ∷ []

unfoldable pub status_word : List ℕ → Option StatusWord
status_word item = find (λ word. is_word item (status_text word)) status_words

-- the setting of a status: 1 where the link is on or open, 0 where it is off or closed
abbrev pub status_setting : StatusWord → Rational
status_setting On = one
status_setting Open = one
status_setting Off = zero
status_setting Closed = zero
