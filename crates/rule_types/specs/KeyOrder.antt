-- The order of keys: nodes, links, gages, each by number and then by attribute, and then the clock.
use Rattle.std.specs.Prelude.{◌≡◌, ℕ, ◌+◌, List, [], ◌∷◌, length}
use Rattle.std.specs.Ordering.{nat_cmp}
use Rattle.std.specs.declared.cmp.Ordering.{Ordering}
use Rattle.std.specs.declared.cmp.Ordering.TheVariants.{Less}
use Rattle.std.specs.List.{AllAdjacentBelow}
use Rattle.std.specs.Cmp.Lexicographic.{slice_cmp}
use Rattle.rule_types.specs.declared.object.Space.{Space}
use Rattle.rule_types.specs.declared.object.Space.TheVariants.{Nodes, Links, Gages}
use Rattle.rule_types.specs.declared.key.Attr.{Attr}
use Rattle.rule_types.specs.declared.key.Attr.TheVariants.{Intensity, HourDepth, Depth, MaxDepth}
use Rattle.rule_types.specs.declared.key.Attr.TheVariants.{FullDepth, Head, Volume, Inflow, Flow}
use Rattle.rule_types.specs.declared.key.Attr.TheVariants.{FullFlow, Velocity, Length, Slope}
use Rattle.rule_types.specs.declared.key.Attr.TheVariants.{Setting, Status, TimeOpen, TimeClosed}
use Rattle.rule_types.specs.declared.key.ClockAttr.{ClockAttr}
use Rattle.rule_types.specs.declared.key.ClockAttr.TheVariants.{Time, Date, Month, Day, ClockTime}
use Rattle.rule_types.specs.declared.key.ClockAttr.TheVariants.{DayOfYear}
use Rattle.rule_types.specs.declared.key.Key.{Key}
use Rattle.rule_types.specs.declared.key.Key.TheVariants.{Object, Clock}

-- the place of a space among the spaces
abbrev pub space_place : Space → ℕ
space_place Nodes = 0
space_place Links = 1
space_place Gages = 2

-- the place of an attribute: those of a link, of a node and of a gage each stand in the order in
-- which `link_has`, `node_has` and `gage_has` list them, and HOUR_DEPTH by its hours (the
-- attributes are those of the SWMM 5.2 manual, [CONTROLS])
abbrev pub attribute_place : Attr → ℕ
attribute_place Flow = 0
attribute_place FullFlow = 1
attribute_place Depth = 2
attribute_place MaxDepth = 3
attribute_place FullDepth = 4
attribute_place Head = 5
attribute_place Volume = 6
attribute_place Inflow = 7
attribute_place Velocity = 8
attribute_place Length = 9
attribute_place Slope = 10
attribute_place Setting = 11
attribute_place Status = 12
attribute_place TimeOpen = 13
attribute_place TimeClosed = 14
attribute_place Intensity = 15
attribute_place (HourDepth hours) = hours + 16

-- the place of an attribute of the clock (the attributes are those of the SWMM 5.2 manual,
-- [CONTROLS])
abbrev pub clock_place : ClockAttr → ℕ
clock_place Time = 0
clock_place Date = 1
clock_place Month = 2
clock_place Day = 3
clock_place ClockTime = 4
clock_place DayOfYear = 5

-- the place of a key: its space, its object's number, its attribute; the clock comes last
abbrev pub key_place : Key → List ℕ
key_place (Object object attribute) =
    space_place object.space ∷ object.index ∷ attribute_place attribute ∷ []
key_place (Clock attribute) = 3 ∷ 0 ∷ clock_place attribute ∷ []

-- how a key stands to another: as the first numbers of their places that differ
abbrev pub key_cmp : Key → Key → Ordering
key_cmp a b = slice_cmp nat_cmp (key_place a) (key_place b)

-- keys in key order without repeats: each stands before the next
abbrev pub IsInKeyOrder : List Key → Type 0
IsInKeyOrder keys = AllAdjacentBelow (λ a b. key_cmp a b ≡ Less) keys (length keys)
