-- When premises hold, and which actions rules list.
use Rattle.std.specs.Prelude.{ℕ, suc, Bool, true, ◌&&◌, ◌||◌, if◌then◌else◌, ◌≡◌, ◌<◌, Some, length}
use Rattle.std.specs.Prelude.{slice_get}
use Rattle.std.specs.Prelude.{List, [], ◌∷◌, ◌++◌, filter}
use Rattle.std.specs.List.{list_all, list_any, onto_first}
use Rattle.rule_types.specs.declared.action.Action.{Action}
use Rattle.rule_types.specs.declared.action.ActionAt.{ActionAt}
use Rattle.rule_types.specs.declared.action.Branch.{Branch}
use Rattle.rule_types.specs.declared.action.Branch.TheVariants.{Then, Otherwise}
use Rattle.rule_types.specs.declared.condition.Condition.{Condition}
use Rattle.rule_types.specs.declared.rule.Rule.{Rule}
use Rattle.rule_types.specs.declared.rules.Rules.{Rules}
use Rattle.rule_types.specs.declared.state.State.{State}
use Rattle.rule_types.specs.Reading.{branch_actions}
use Rattle.rule_meaning.specs.SomeRules.{is_among}
use Rattle.rule_meaning.specs.Condition.{holds}

-- whether a group ends before these things: none are left, or the first one begins a group
abbrev pub ends_before : {A : Type 0} → (A → Bool) → List A → Bool
ends_before begins [] = true
ends_before begins (thing ∷ more) = begins thing

-- things cut into groups, before each one that begins a group
unfoldable pub groups : {A : Type 0} → (A → Bool) → List A → List (List A)
groups begins [] = []
groups begins (thing ∷ more) =
    if ends_before begins more
    then (thing ∷ []) ∷ groups begins more
    else onto_first thing (groups begins more)

-- whether each group has a condition that holds, where the conditions are cut before each one that
-- is joined by AND: OR binds closer than AND (SWMM 5.2 manual, [CONTROLS], premises)
unfoldable pub premise_by : (Condition → Bool) → List Condition → Bool
premise_by truth conditions = list_all (list_any truth) (groups (λ c. c.joined_by_and) conditions)

-- the same in one walk through the conditions, where `any` says whether a condition of the group
-- so far holds: one that begins a group closes the group before it
unfoldable pub rest_holds : (Condition → Bool) → Bool → List Condition → Bool
rest_holds truth any [] = any
rest_holds truth any (c ∷ more) =
    if c.joined_by_and
    then any && rest_holds truth (truth c) more
    else rest_holds truth (any || truth c) more

unfoldable pub whole_holds : (Condition → Bool) → List Condition → Bool
whole_holds truth [] = true
whole_holds truth (c ∷ more) = rest_holds truth (truth c) more

-- a condition at its place in a rule, from 0
pub record Placed : Type 0 where
  pub place : ℕ
  pub condition : Condition

-- conditions at their places, from `place` on
unfoldable pub placed_from : ℕ → List Condition → List Placed
placed_from place [] = []
placed_from place (c ∷ more) =
    record { place = place; condition = c } ∷ placed_from (suc place) more

-- the same as `premise_by` where truth is given by place
unfoldable pub premise_at : (ℕ → Condition → Bool) → List Condition → Bool
premise_at truth conditions =
    list_all (list_any (λ c. truth c.place c.condition))
    (groups (λ c. c.condition.joined_by_and) (placed_from 0 conditions))

-- whether a rule's premise holds at a state
abbrev pub premise_holds : Rules → State → Rule → Bool
premise_holds x s rule = premise_by (holds x s) rule.conditions

-- the branch that a rule lists: THEN where its premise holds, else ELSE (SWMM 5.2 manual,
-- [CONTROLS])
abbrev pub listed_branch : Rules → State → Rule → Branch
listed_branch x s rule = if premise_holds x s rule then Then else Otherwise

-- the places of a branch's actions, from `action` on
unfoldable pub places_of : ℕ → Branch → ℕ → List Action → List ActionAt
places_of rule branch action [] = []
places_of rule branch action (one ∷ more) =
    record { rule = rule; branch = branch; action = action }
    ∷ places_of rule branch (suc action) more

-- the pairs of the rules from `place` on, in the order of rules and of actions, where each rule at
-- its place lists the branch that `branch` gives
unfoldable pub listed_by : (ℕ → Rule → Branch) → ℕ → List Rule → List ActionAt
listed_by branch place [] = []
listed_by branch place (rule ∷ more) =
    places_of place (branch place rule) 0 (branch_actions rule (branch place rule))
    ++ listed_by branch (suc place) more

-- the pairs of a rule and an action of the branch that it lists at a state (SWMM 5.2 manual,
-- [CONTROLS])
unfoldable pub listed : Rules → State → List ActionAt
listed x s = listed_by (λ place rule. listed_branch x s rule) 0 x.rules

-- the listed pairs of the rules of some numbers
unfoldable pub listed_among : List ℕ → Rules → State → List ActionAt
listed_among numbers x s = filter (λ at. is_among numbers at.rule) (listed x s)

-- a pair is listed: its rule lists its branch, and the branch has its action (SWMM 5.2 manual,
-- [CONTROLS])
pub record IsListed (x : Rules) (s : State) (at : ActionAt) : Type 0 where
  pub rule : Rule
  pub is : slice_get x.rules at.rule ≡ Some rule
  pub branch : at.branch ≡ listed_branch x s rule
  pub action : at.action < length (branch_actions rule at.branch)
