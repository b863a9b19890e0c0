-- The room that readings of rules need.
use Rattle.std.specs.Prelude.{◌≡◌, ℕ, ◌+◌, ◌≤◌, List, [], ◌∷◌, length}
use Rattle.rule_types.specs.declared.rule.Rule.{Rule}
use Rattle.rule_types.specs.declared.rules.Rules.{Rules}
use Rattle.premise_eval.specs.Kept.{Kept, IsPlan}
use Rattle.action_values.specs.Links.{ControlledPlaces}

-- how many actions a rule has, and how many rules have: a reading lists no more pairs
abbrev pub rule_room : Rule → ℕ
rule_room rule = length rule.then_actions + length rule.else_actions

unfoldable pub pair_room : List Rule → ℕ
pair_room [] = 0
pair_room (rule ∷ more) = rule_room rule + pair_room more

-- what readings keep: the values of the sides of conditions, the places of the controlled links,
-- and room for listed pairs, for one pair a link and for memories
pub record Kit : Type 0 where
  pub kept : Kept
  pub places : List ℕ
  pub pairs : ℕ
  pub links : ℕ
  pub memories : ℕ

-- what is kept serves rules, with so many memories
pub record IsKit (x : Rules) (count : ℕ) (kit : Kit) : Type 0 where
  pub plan : IsPlan x kit.kept
  pub places : ControlledPlaces x kit.places
  pub pairs : pair_room x.rules ≤ kit.pairs
  pub links : kit.links ≡ length x.controlled
  pub memories : kit.memories ≡ count
