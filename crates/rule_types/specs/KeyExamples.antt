-- The attributes of objects, by the table of the SWMM 5.2 manual, [CONTROLS], and keys in key
-- order.
use Rattle.std.specs.Prelude.{List, [], ◌∷◌, ◌++◌, map}
use Rattle.rule_types.specs.declared.object.Space.{Space}
use Rattle.rule_types.specs.declared.object.Space.TheVariants.{Nodes, Links, Gages}
use Rattle.rule_types.specs.declared.key.Attr.{Attr}
use Rattle.rule_types.specs.declared.key.Attr.TheVariants.{Intensity, HourDepth, Depth, MaxDepth}
use Rattle.rule_types.specs.declared.key.Attr.TheVariants.{FullDepth, Head}
use Rattle.rule_types.specs.declared.key.Attr.TheVariants.{Volume, Inflow, Flow, FullFlow, Velocity}
use Rattle.rule_types.specs.declared.key.Attr.TheVariants.{Length, Slope}
use Rattle.rule_types.specs.declared.key.Attr.TheVariants.{Setting, Status, TimeOpen, TimeClosed}
use Rattle.rule_types.specs.declared.key.ClockAttr.{ClockAttr}
use Rattle.rule_types.specs.declared.key.ClockAttr.TheVariants.{Time, Date, Month, Day, ClockTime}
use Rattle.rule_types.specs.declared.key.ClockAttr.TheVariants.{DayOfYear}
use Rattle.rule_types.specs.declared.key.Key.{Key}
use Rattle.rule_types.specs.declared.key.Key.TheVariants.{Object, Clock}

-- every attribute, and those of rain with 0, 1, 48 and 49 hours
abbrev pub all_attributes : List Attr
all_attributes =
    HourDepth 0 ∷ Flow ∷ FullFlow ∷ Depth ∷ MaxDepth ∷ FullDepth ∷ Head ∷ Volume ∷ Inflow ∷ Velocity
    ∷ Length ∷ Slope ∷ Setting ∷ Status ∷ TimeOpen ∷ TimeClosed ∷ Intensity ∷ HourDepth 1
    ∷ HourDepth 48 ∷ HourDepth 49 ∷ []

-- those of a node, of a link and of a gage, in the order of the table
abbrev pub node_attributes : List Attr
node_attributes = Depth ∷ MaxDepth ∷ FullDepth ∷ Head ∷ Volume ∷ Inflow ∷ []

abbrev pub link_attributes : List Attr
link_attributes =
    Flow ∷ FullFlow ∷ Depth ∷ MaxDepth ∷ FullDepth ∷ Velocity ∷ Length ∷ Slope ∷ Setting ∷ Status
    ∷ TimeOpen ∷ TimeClosed ∷ []

abbrev pub gage_attributes : List Attr
gage_attributes = Intensity ∷ HourDepth 1 ∷ HourDepth 48 ∷ []

-- those of the clock
abbrev pub clock_attributes : List ClockAttr
clock_attributes = Time ∷ Date ∷ Month ∷ Day ∷ ClockTime ∷ DayOfYear ∷ []

-- keys of the first object of a space
abbrev pub keys_of : Space → List Attr → List Key
keys_of space = map (λ attribute. Object (record { space = space; index = 0 }) attribute)

-- all keys of one node, one link and one gage, and those of the clock
abbrev pub ordered_keys : List Key
ordered_keys =
    keys_of Nodes node_attributes ++ keys_of Links link_attributes ++ keys_of Gages gage_attributes
    ++ map Clock clock_attributes
