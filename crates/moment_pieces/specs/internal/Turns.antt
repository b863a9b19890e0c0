-- The seconds at which conditions of the clock change, as numbers on a scale.
use Rattle.std.specs.Prelude.{◌≡◌, ℕ, ◌==◌, ◌≤◌, Bool, true, false, ◌&&◌, ◌||◌}
use Rattle.std.specs.Prelude.{Option, None, Some, ℤ, pos, ◌-ℤ◌, List, slice_get, IsTrue}
use Rattle.std.specs.List.{list_any}
use Rattle.std.specs.Ordering.{int_eq}
use Rattle.rule_types.specs.declared.condition.Condition.{Condition}
use Rattle.rule_types.specs.declared.condition.Side.{Side}
use Rattle.rule_types.specs.declared.condition.Side.TheVariants as side
use Rattle.rule_types.specs.declared.condition.Right.{Right}
use Rattle.rule_types.specs.declared.condition.Right.TheVariants as right
use Rattle.rule_types.specs.declared.key.ClockAttr.{ClockAttr}
use Rattle.rule_types.specs.declared.key.ClockAttr.TheVariants.{Time, ClockTime}
use Rattle.rule_types.specs.declared.key.Key.TheVariants.{Clock}
use Rattle.rule_types.specs.declared.names.NameDef.{NameDef}
use Rattle.exact_fraction.specs.Number.{Rational}
use Rattle.rule_types.specs.declared.rule.Rule.{Rule}
use Rattle.rule_types.specs.declared.rules.Rules.{Rules}
use Rattle.rule_types.specs.WellFormed.{IsTimeRight}
use Rattle.clock_values.specs.Windows.{window_of, window_turns}
use Rattle.moment_pieces.specs.Sides.{side_of}
use Rattle.moment_pieces.specs.declared.turns.Scale.{Scale}

-- whether a number is one of a list
abbrev pub stands_in : List ℕ → ℕ → Bool
stands_in list n = list_any (λ s. n == s) list

-- one list of numbers has those of another, and the numbers that pass a test
pub record Adds (old new : List ℕ) (test : ℕ → Bool) : Type 0 where
  pub is : (m : ℕ) → stands_in new m ≡ (stands_in old m || test m)

-- the number of a second on a scale, where it is one of those that are counted
abbrev pub IsNumberAt : ℤ → Scale → Option ℕ → Type 0
IsNumberAt second scale None =
    (m : ℕ) → m ≤ scale.limit → int_eq (pos m -ℤ scale.shift) second ≡ false
IsNumberAt second scale (Some number) =
    (number ≤ scale.limit) × (pos number -ℤ scale.shift ≡ second)

-- whether an attribute is counted on a scale: CLOCKTIME on that of a day, TIME on that of the run
abbrev pub is_counted : Bool → ClockAttr → Bool
is_counted true ClockTime = true
is_counted false Time = true
is_counted daily attribute = false

-- whether a condition of an attribute against a number changes at a number on a scale
unfoldable pub value_turns : Scale → Condition → ℕ → ClockAttr → Rational → Bool
value_turns scale c m attribute q =
    is_counted scale.daily attribute
    && window_turns (window_of c scale.step q) (pos m -ℤ scale.shift)

-- the same of a condition of any sides
abbrev pub sides_turn : Scale → Condition → ℕ → Side → Right → Bool
sides_turn scale c m (side.Key (Clock attribute)) (right.Value q) =
    value_turns scale c m attribute q
sides_turn scale c m left right = false

unfoldable pub condition_turns : List NameDef → Scale → ℕ → Condition → Bool
condition_turns names scale m c = sides_turn scale c m (side_of names c.left) c.right

abbrev pub rule_turns : List NameDef → Scale → ℕ → Option Rule → Bool
rule_turns names scale m None = false
rule_turns names scale m (Some rule) = list_any (condition_turns names scale m) rule.conditions

unfoldable pub used_turn : Rules → List ℕ → Scale → ℕ → Bool
used_turn x used scale m =
    list_any (λ number. rule_turns x.names scale m (slice_get x.rules number)) used

-- a half-step condition has a time value on the right
pub record HalfStepFits (c : Condition) : Type 0 where
  pub value : IsTrue c.half_step → IsTimeRight c.right
