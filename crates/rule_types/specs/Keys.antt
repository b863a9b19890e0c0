-- Which keys there are, and where their values come from.
use Rattle.std.specs.Prelude.{ℕ, Bool, true, false, not, ◌&&◌, nat_le, List, [], ◌∷◌}
use Rattle.rule_types.specs.declared.object.Space.{Space}
use Rattle.rule_types.specs.declared.object.Space.TheVariants.{Nodes, Links, Gages}
use Rattle.rule_types.specs.declared.key.Attr.{Attr}
use Rattle.rule_types.specs.declared.key.Attr.TheVariants.{Intensity, HourDepth, Depth, MaxDepth}
use Rattle.rule_types.specs.declared.key.Attr.TheVariants.{FullDepth, Head, Volume, Inflow, Flow}
use Rattle.rule_types.specs.declared.key.Attr.TheVariants.{FullFlow, Velocity, Length, Slope}
use Rattle.rule_types.specs.declared.key.Attr.TheVariants.{Setting, Status, TimeOpen, TimeClosed}
use Rattle.rule_types.specs.declared.key.ClockAttr.TheVariants.{Time, ClockTime}
use Rattle.rule_types.specs.declared.key.Key.{Key}
use Rattle.rule_types.specs.declared.key.Key.TheVariants.{Object, Clock}

-- the attributes of a node (the attributes are those of the SWMM 5.2 manual, [CONTROLS])
abbrev pub node_has : Attr → Bool
node_has Depth = true
node_has MaxDepth = true
node_has FullDepth = true
node_has Head = true
node_has Volume = true
node_has Inflow = true
node_has attribute = false

-- the attributes of a link (the attributes are those of the SWMM 5.2 manual, [CONTROLS])
abbrev pub link_has : Attr → Bool
link_has Flow = true
link_has FullFlow = true
link_has Depth = true
link_has MaxDepth = true
link_has FullDepth = true
link_has Velocity = true
link_has Length = true
link_has Slope = true
link_has Setting = true
link_has Status = true
link_has TimeOpen = true
link_has TimeClosed = true
link_has attribute = false

-- the attributes of a gage, with the rainfall of the last 1 to 48 hours (the attributes are those
-- of the SWMM 5.2 manual, [CONTROLS])
abbrev pub gage_has : Attr → Bool
gage_has Intensity = true
gage_has (HourDepth hours) = nat_le 1 hours && nat_le hours 48
gage_has attribute = false

-- whether the objects of a space have an attribute
abbrev pub has_attribute : Space → Attr → Bool
has_attribute Nodes attribute = node_has attribute
has_attribute Links attribute = link_has attribute
has_attribute Gages attribute = gage_has attribute

-- whether a key's object can have the key's attribute
abbrev pub is_key : Key → Bool
is_key (Object object attribute) = has_attribute object.space attribute
is_key (Clock attribute) = true

-- whether an attribute is read off a link's setting and timer, and not off the trace
abbrev pub is_link_state : Attr → Bool
is_link_state Setting = true
is_link_state Status = true
is_link_state TimeOpen = true
is_link_state TimeClosed = true
is_link_state attribute = false

-- whether a key's value comes from the trace, and neither from the clock nor from a link's setting
-- and timer
abbrev pub is_input : Key → Bool
is_input (Object object attribute) = not (is_link_state attribute)
is_input (Clock attribute) = false

-- the link whose setting, status or timer a key reads
abbrev pub link_read : Key → List ℕ
link_read (Object object Setting) = object.index ∷ []
link_read (Object object Status) = object.index ∷ []
link_read (Object object TimeOpen) = object.index ∷ []
link_read (Object object TimeClosed) = object.index ∷ []
link_read key = []

-- whether a key's value is a time in hours: TIME, CLOCKTIME or a timer
abbrev pub is_time : Key → Bool
is_time (Object object TimeOpen) = true
is_time (Object object TimeClosed) = true
is_time (Clock Time) = true
is_time (Clock ClockTime) = true
is_time key = false
