-- What is known of premises in a box.
use Rattle.std.specs.Prelude.{◌≡◌, ℕ, Bool, true, false, Option, Some, None, List, [], ◌∷◌}
use Rattle.std.specs.Prelude.{slice_get}
use Rattle.std.specs.Prelude.{ℤ, pos}
use Rattle.exact_fraction.specs.Number.{Rational}
use Rattle.rule_types.specs.declared.condition.Condition.{Condition}
use Rattle.rule_types.specs.declared.rule.Rule.{Rule}
use Rattle.rule_types.specs.declared.rules.Rules.{Rules}
use Rattle.rule_meaning.specs.Premise.{groups}
use Rattle.verdict_meaning.specs.declared.cell.Cell.{Cell}
use Rattle.verdict_meaning.specs.declared.truth.Truth.{Truth}
use Rattle.verdict_meaning.specs.declared.truth.Truth.TheVariants.{Yes, No, Open}
use Rattle.verdict_meaning.specs.Truths.{condition_truth}

-- what is known is so
abbrev pub Tells : Truth → Bool → Type 0
Tells Yes holds = holds ≡ true
Tells No holds = holds ≡ false
Tells Open holds = Unit {0}

-- either of two: Yes where one is, No where both are
abbrev pub either_truth : Truth → Truth → Truth
either_truth Yes b = Yes
either_truth No b = b
either_truth Open Yes = Yes
either_truth Open No = Open
either_truth Open Open = Open

-- both of two: Yes where both are, No where one is
abbrev pub both_truth : Truth → Truth → Truth
both_truth Yes b = b
both_truth No b = No
both_truth Open Yes = Open
both_truth Open No = No
both_truth Open Open = Open

-- any of some things, and all of them
unfoldable pub any_truth : {A : Type 0} → (A → Truth) → List A → Truth
any_truth truth [] = No
any_truth truth (thing ∷ more) = either_truth (truth thing) (any_truth truth more)

unfoldable pub all_truth : {A : Type 0} → (A → Truth) → List A → Truth
all_truth truth [] = Yes
all_truth truth (thing ∷ more) = both_truth (truth thing) (all_truth truth more)

-- a premise, from what is known of its conditions: Yes where each group has a condition that is
-- Yes, No where all conditions of some group are No
unfoldable pub premise_truth_by : (Condition → Truth) → List Condition → Truth
premise_truth_by truth conditions =
    all_truth (any_truth truth) (groups (λ c. c.joined_by_and) conditions)

-- the start of a project that is prepared for ranges; another one has none
abbrev pub second_or_first : Option ℤ → ℤ
second_or_first None = pos 0
second_or_first (Some second) = second

abbrev pub start_of : Rules → ℤ
start_of x = second_or_first x.start

-- a rule's premise in a box, with the step and the start of the project
abbrev pub conditions_of : Option Rule → List Condition
conditions_of None = []
conditions_of (Some rule) = rule.conditions

unfoldable pub rule_truth : Rules → Cell → ℕ → Truth
rule_truth x cell number =
    premise_truth_by (condition_truth x.names (start_of x) x.routing_step cell)
    (conditions_of (slice_get x.rules number))
