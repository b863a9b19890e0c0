-- What well formed rules, and the states, tables and memories that fit them, say of each place.
use Rattle.std.proofs.Common.{◌≡◌, ℕ, suc, zero, ◌<◌, List, [], ◌∷◌, Option, Some, None, All, refl}
use Rattle.std.proofs.Common.{sym, subst, ◌∙◌, arith}
use Rattle.std.specs.Prelude.{Bool, true, false, ◌&&◌, IsTrue, Contains, length, slice_get, IfSome}
use Rattle.std.specs.List.{flat_map}
use Rattle.std.proofs.lemmas.List.Elements.{All-contains, Contains-append_left}
use Rattle.std.proofs.lemmas.List.Elements.{Contains-append_right}
use Rattle.std.proofs.lemmas.List.{get_or_default}
use Rattle.std.proofs.lemmas.Option.{slice_get_within, get_or_from_slice_get}
use Rattle.rule_types.specs.declared.action.Action.{Action}
use Rattle.rule_types.specs.declared.action.ActionAt.{ActionAt}
use Rattle.rule_types.specs.declared.action.Branch.{Branch}
use Rattle.rule_types.specs.declared.action.Branch.TheVariants.{Then, Otherwise}
use Rattle.rule_types.specs.declared.action.PidMemory.{PidMemory}
use Rattle.rule_types.specs.declared.action.What.{What}
use Rattle.rule_types.specs.declared.action.What.TheVariants.{Constant, Curve, Series, Pid}
use Rattle.rule_types.specs.declared.condition.Condition.{Condition}
use Rattle.rule_types.specs.declared.names.NameDef.{NameDef}
use Rattle.rule_types.specs.declared.rule.Rule.{Rule}
use Rattle.rule_types.specs.declared.rules.Rules.{Rules}
use Rattle.rule_types.specs.declared.state.State.{State}
use Rattle.rule_types.specs.Fitting.{FitsRules, SameSizes, ActionsCounted, MemoriesFit, PidFits}
use Rattle.rule_types.specs.Fitting.{PairCounted, ActionReady, PairReady}
use Rattle.rule_types.specs.Reading.{rule_actions, branch_actions, action_at, pid_of, pid_numbers}
use Rattle.rule_types.specs.Reading.{pid_count}
use Rattle.rule_types.specs.Tables.{TableSet, HoldsTableOf, HoldsTables}
use Rattle.rule_types.specs.WellFormed.{IsHalfStep, IsTimeRight, takes_half_step, is_time_side}
use Rattle.rule_types.specs.WellFormed.{is_equality, WellFormed, RuleFits, PidsNumbered}
use Rattle.rule_types.proofs.Opened.{numbers_of}

-- a condition of a time on the left, an equality and a time value on the right can be a half-step
-- condition
both_true : (a b : Bool) → IsTrue (a && b) → IsTrue a × IsTrue b
both_true true b h = (refl, h)
both_true false b h = cc

pub half_step : (c : Condition) → IsTrue (takes_half_step c.left c.rel) → IsTimeRight c.right → IsHalfStep c
half_step c h value =
    let both = both_true (is_time_side c.left) (is_equality c.rel) h in
    record { equality = both.1; time = both.0; value = value }

-- a rule's actions have places that can be counted in 32 bits
pub actions_counted : (names : List NameDef) (rule : Rule) → RuleFits names rule → ActionsCounted rule
actions_counted names rule h = record { then_counted = h.then_counted; else_counted = h.else_counted }

-- a state that fits has the sizes of the rules
pub same_sizes : (x : Rules) (s : State) → FitsRules x s → SameSizes x s
same_sizes x s h = record { inputs = h.inputs; links = h.links }

-- what is found at a place is in the list
at_place : {A : Type 0} (xs : List A) (k : ℕ) (x : A) → slice_get xs k ≡ Some x → Contains xs x
at_place xs k x e = (k, slice_get_within xs k x e, get_or_from_slice_get xs k x x e)

-- what is in one of the lists is in all of them in a row
in_row : {A B : Type 0} (f : A → List B) (xs : List A) (x : A) (y : B) → Contains xs x → Contains (f x) y → Contains (flat_map f xs) y
in_row f [] x y h i = absurd (omega (arith, h.1))
in_row f (first ∷ xs) x y (zero, lt, e) i =
    Contains-append_left (f first) (flat_map f xs) y (subst (λ z. Contains (f z) y) (sym e) i)
in_row f (first ∷ xs) x y (suc k, lt, e) i =
    Contains-append_right (f first) (flat_map f xs) y (in_row f xs x y (k, omega arith, e) i)

-- an action of a branch is one of its rule
of_branch : (rule : Rule) (branch : Branch) (action : Action) → Contains (branch_actions rule branch) action → Contains (rule_actions rule) action
of_branch rule Then action h = Contains-append_left rule.then_actions rule.else_actions action h
of_branch rule Otherwise action h = Contains-append_right rule.then_actions rule.else_actions action h

-- what holds of each action of each rule holds of the one at a place
module _ (P : Action → Type 0) (rules : List Rule) where
  found : (at : ActionAt) (rule : Rule) (one : Option Action) → slice_get (branch_actions rule at.branch) at.action ≡ one
      → ((action : Action) → Contains (rule_actions rule) action → P action) → IfSome one P
  found at rule None e h = tt
  found at rule (Some action) e h =
      h action (of_branch rule at.branch action (at_place (branch_actions rule at.branch) at.action action e))

  pub every_action : (at : ActionAt)
      → ((rule : Rule) (action : Action) → Contains rules rule → Contains (rule_actions rule) action → P action)
      → IfSome (action_at rules at) P
  unfolding action_at
  every_action at h = by_rule (slice_get rules at.rule) refl
    where
      by_rule : (one : Option Rule) → slice_get rules at.rule ≡ one → IfSome (action_at rules at) P
      by_rule None e = rw e tt
      by_rule (Some rule) e =
          rw e (found at rule (slice_get (branch_actions rule at.branch) at.action) refl
          (λ action. h rule action (at_place rules at.rule rule e)))

-- the number of a PID action is one of the file's
of_what : (what : What) (count : ℕ) → ((number : ℕ) → Contains (pid_of what) number → number < count) → PidFits count what
of_what (Constant q) count h = tt
of_what (Curve number) count h = tt
of_what (Series number) count h = tt
of_what (Pid set number) count h = h number (0, omega arith, refl)

pid_numbered : (rules : List Rule) (rule : Rule) (action : Action) → PidsNumbered rules → Contains rules rule
    → Contains (rule_actions rule) action → PidFits (pid_count rules) action.what
unfolding pid_numbers pid_count
pid_numbered rules rule action h in_rules in_rule =
    of_what action.what (pid_count rules) (λ number here.
    let one = in_row (λ a. pid_of a.what) (rule_actions rule) action number in_rule here in
    let all : Contains (pid_numbers rules) number = in_row (λ r. flat_map (λ a. pid_of a.what) (rule_actions r)) rules rule number in_rules one in
    let is = numbers_of rules h all.0 all.1 in
    subst (λ (n : ℕ). n < length (pid_numbers rules))
    (sym is ∙ get_or_default (pid_numbers rules) all.0 0 number all.1 ∙ all.2) all.1)

pub pids_counted : (x : Rules) (memories : List PidMemory) → WellFormed x → MemoriesFit x.rules memories
    → (at : ActionAt) → PairCounted x.rules (length memories) at
unfolding PairCounted
pids_counted x memories h m at = rw m.count
    (every_action (λ action. PidFits (pid_count x.rules) action.what) x.rules at
    (λ rule action. pid_numbered x.rules rule action h.pids))

pub actions_ready : (x : Rules) (tables : TableSet) (memories : List PidMemory) → WellFormed x → HoldsTables tables x.rules
    → MemoriesFit x.rules memories → (at : ActionAt) → PairReady x.rules tables (length memories) at
unfolding PairReady
actions_ready x tables memories h holds m at = rw m.count
    (every_action (ActionReady tables (pid_count x.rules)) x.rules at
    (λ rule action in_rules in_rule. record {
      table = All-contains (λ a. HoldsTableOf tables a.what) (rule_actions rule) action (All-contains (λ r. All (λ a. HoldsTableOf tables a.what) (rule_actions r)) x.rules rule holds in_rules) in_rule;
      memory = pid_numbered x.rules rule action h.pids in_rules in_rule;
    }))
