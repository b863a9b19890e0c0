-- The settings and timers of a range that a line states are at least 0.
use Rattle.std.proofs.Common.{◌≡◌, Bool, true, false, Option, Some, None, Result, Ok, Err, refl}
use Rattle.std.proofs.Common.{sym, ◌∙◌}
use Rattle.std.proofs.lemmas.Bool.{true≢false}
use Rattle.std.specs.Prelude.{IfSome, IsTrue, if◌then◌else◌}
use Rattle.exact_fraction.specs.Number.{Rational, zero}
use Rattle.exact_fraction.specs.Order.{◌≤ℚ◌, less}
use Rattle.exact_fraction.proofs.PublicLaws.{order-transitive, tests-not_less}
use Rattle.interval_sets.specs.Intervals.{lies_in}
use Rattle.interval_sets.proofs.PublicLaws.{intervals-inside}
use Rattle.key_words.specs.Words.{in_row}
use Rattle.object_index.specs.Objects.{word_space}
use Rattle.object_index.specs.declared.unresolved.Unresolved.{Unresolved}
use Rattle.rule_types.specs.Keys.{has_attribute, is_link_state}
use Rattle.rule_types.specs.declared.key.Attr.{Attr}
use Rattle.rule_types.specs.declared.key.Attr.TheVariants.{Intensity, HourDepth, Depth, MaxDepth}
use Rattle.rule_types.specs.declared.key.Attr.TheVariants.{FullDepth, Head, Volume, Inflow, Flow}
use Rattle.rule_types.specs.declared.key.Attr.TheVariants.{FullFlow, Velocity, Length, Slope}
use Rattle.rule_types.specs.declared.key.Attr.TheVariants.{Setting, Status, TimeOpen, TimeClosed}
use Rattle.rule_types.specs.declared.key.Key.{Key}
use Rattle.rule_types.specs.declared.key.Key.TheVariants.{Object}
use Rattle.rule_types.specs.declared.object.ObjectNo.{ObjectNo}
use Rattle.rule_types.specs.declared.object.ObjectWord.{ObjectWord}
use Rattle.range_lines.specs.Entries.{ends_if, is_not_negative, key_of, with_range}
use Rattle.range_lines.specs.Lines.{closed}
use Rattle.grid_samples.specs.Cells.{IsNotBelowZero}

-- the range between two ends may be that of a key
abbrev pub MayRange : Key → Rational × Rational → Type 0
MayRange key ends = IsNotBelowZero key (closed ends.0 ends.1)

-- ends may be those of an attribute of any object
abbrev HasEnds : Option (Rational × Rational) → Attr → Type 0
HasEnds ends attribute = (object : ObjectNo) → IfSome ends (MayRange (Object object attribute))

from_zero : (low high : Rational) → zero ≤ℚ low → (q : Rational)
    → IsTrue (lies_in (closed low high) q) → zero ≤ℚ q
from_zero low high h q inside =
    order-transitive zero low q h (((intervals-inside (closed low high) q).0 inside).above)

-- an attribute whose lower end is not below 0
state_ends : (attribute : Attr) (ends : Option (Rational × Rational))
    → HasEnds (ends_if true ends) attribute
state_ends attribute None object = tt
state_ends attribute (Some ends) object = by (less ends.0 zero) refl
  where
    by : (below : Bool) → less ends.0 zero ≡ below
        → IfSome (if below then None else Some ends) (MayRange (Object object attribute))
    by true is = tt
    by false is = λ state. from_zero ends.0 ends.1 ((tests-not_less ends.0 zero).0 is)

-- an attribute that is not read off a link's setting and timer
other_ends : (attribute : Attr) (ends : Option (Rational × Rational))
    → is_link_state attribute ≡ false → HasEnds ends attribute
other_ends attribute None is object = tt
other_ends attribute (Some ends) is object = λ state. absurd (true≢false (sym state ∙ is))

attribute_ends : (attribute : Attr) (ends : Option (Rational × Rational))
    → IfSome (with_range (Some attribute))
    (HasEnds (ends_if (is_not_negative (Some attribute)) ends))
attribute_ends Intensity ends = other_ends Intensity ends refl
attribute_ends (HourDepth hours) ends = other_ends (HourDepth hours) ends refl
attribute_ends Depth ends = other_ends Depth ends refl
attribute_ends MaxDepth ends = other_ends MaxDepth ends refl
attribute_ends FullDepth ends = other_ends FullDepth ends refl
attribute_ends Head ends = other_ends Head ends refl
attribute_ends Volume ends = other_ends Volume ends refl
attribute_ends Inflow ends = other_ends Inflow ends refl
attribute_ends Flow ends = other_ends Flow ends refl
attribute_ends FullFlow ends = other_ends FullFlow ends refl
attribute_ends Velocity ends = other_ends Velocity ends refl
attribute_ends Length ends = other_ends Length ends refl
attribute_ends Slope ends = other_ends Slope ends refl
attribute_ends Setting ends = state_ends Setting ends
attribute_ends Status ends = tt
attribute_ends TimeOpen ends = state_ends TimeOpen ends
attribute_ends TimeClosed ends = state_ends TimeClosed ends

row_ends : (word : ObjectWord) (named : Option Attr) (ends : Option (Rational × Rational))
    → IfSome (with_range (in_row word named)) (HasEnds (ends_if (is_not_negative named) ends))
row_ends word None ends = tt
row_ends word (Some attribute) ends = by (has_attribute (word_space word) attribute)
  where
    by : (has : Bool)
        → IfSome (with_range (if has then Some attribute else None))
        (HasEnds (ends_if (is_not_negative (Some attribute)) ends))
    by true = attribute_ends attribute ends
    by false = tt

key_ends : (object : Result ObjectNo Unresolved) (attribute : Option Attr)
    (ends : Option (Rational × Rational)) → IfSome attribute (HasEnds ends)
    → IfSome (key_of object attribute) (λ key. IfSome ends (MayRange key))
key_ends (Err fault) attribute ends h = tt
key_ends (Ok object) None ends h = tt
key_ends (Ok object) (Some attribute) ends h = h object

-- the range of a key that a line names
pub named_ends : (word : ObjectWord) (object : Result ObjectNo Unresolved) (named : Option Attr)
    (ends : Option (Rational × Rational))
    → IfSome (key_of object (with_range (in_row word named)))
    (λ key. IfSome (ends_if (is_not_negative named) ends) (MayRange key))
named_ends word object named ends =
    key_ends object (with_range (in_row word named)) (ends_if (is_not_negative named) ends)
    (row_ends word named ends)
