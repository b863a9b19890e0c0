-- Some of the rules, by their numbers from 0.
use Rattle.std.specs.Prelude.{◌≡◌, ℕ, Bool, ◌==◌, IsTrue, Some, List, slice_get, filter_map}
use Rattle.std.specs.List.{list_any}
use Rattle.rule_types.specs.declared.rule.Rule.{Rule}
use Rattle.rule_types.specs.Reading.{rule_actions}

-- the rules of these numbers, in the order of the numbers
abbrev pub rules_at : List Rule → List ℕ → List Rule
rules_at rules numbers = filter_map (slice_get rules) numbers

-- whether a number is one of these
abbrev pub is_among : List ℕ → ℕ → Bool
is_among numbers number = list_any (λ other. number == other) numbers

-- whether a rule acts on a link, in either branch
abbrev pub rule_acts_on : ℕ → Rule → Bool
rule_acts_on link rule = list_any (λ action. action.link == link) (rule_actions rule)

-- the numbers have every rule that acts on a link
pub record HaveRulesOn (rules : List Rule) (link : ℕ) (numbers : List ℕ) : Type 0 where
  pub each :
      (number : ℕ) (rule : Rule) → slice_get rules number ≡ Some rule
      → IsTrue (rule_acts_on link rule) → IsTrue (is_among numbers number)
