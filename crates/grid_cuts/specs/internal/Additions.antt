-- Numbers that are added to those that cut a range.
use Rattle.std.specs.Prelude.{◌≡◌, ℕ, Option, Some, None, List, [], ◌++◌, All, filter, slice_get}
use Rattle.std.specs.List.{flat_map}
use Rattle.exact_fraction.specs.Number.{Rational, IsLowest}
use Rattle.interval_sets.specs.Intervals.{lies_in}
use Rattle.rule_types.specs.declared.names.NameDef.{NameDef}
use Rattle.rule_types.specs.declared.rule.Rule.{Rule}
use Rattle.rule_types.specs.declared.rules.Rules.{Rules}
use Rattle.verdict_meaning.specs.Grids.{condition_cuts}
use Rattle.grid_cuts.specs.declared.key_range.KeyRange.{KeyRange}

-- some numbers are added behind those of a list, which stays one of numbers in lowest terms
pub record Adds (before after found : List Rational) : Type 0 where
  pub numbers : after ≡ before ++ found
  pub lowest : All IsLowest before → All IsLowest after

-- the numbers that lie in a key's range
abbrev pub within : KeyRange → List Rational → List Rational
within wanted found = filter (lies_in wanted.range) found

-- the cuts of a rule, if there is one
abbrev pub rule_cuts : List NameDef → KeyRange → Option Rule → List Rational
rule_cuts names wanted None = []
rule_cuts names wanted (Some rule) =
    flat_map (condition_cuts names wanted.step wanted.key) rule.conditions

-- the cuts of the rules of some numbers
abbrev pub asked_cuts : Rules → KeyRange → List ℕ → List Rational
asked_cuts x wanted asked =
    flat_map (λ number. rule_cuts x.names wanted (slice_get x.rules number)) asked
