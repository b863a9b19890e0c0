-- Which states, tables and memories fit rules.
use Rattle.std.specs.Prelude.{◌≡◌, ℕ, ◌<◌, false, pos, List, length, All, IfSome, ◌⊎◌}
use Rattle.std.specs.List.{AllZip}
use Rattle.exact_fraction.specs.Number.{Rational, den, zero, one, whole}
use Rattle.exact_fraction.specs.Order.{◌≤ℚ◌}
use Rattle.rule_types.specs.declared.rule.Rule.{Rule}
use Rattle.rule_types.specs.declared.rules.Rules.{Rules}
use Rattle.rule_types.specs.declared.state.LinkState.{LinkState}
use Rattle.rule_types.specs.declared.state.State.{State}
use Rattle.rule_types.specs.declared.action.Action.{Action}
use Rattle.rule_types.specs.declared.action.ActionAt.{ActionAt}
use Rattle.rule_types.specs.declared.action.PidMemory.{PidMemory}
use Rattle.rule_types.specs.declared.action.What.{What}
use Rattle.rule_types.specs.declared.action.What.TheVariants.{Constant, Curve, Series, Pid}
use Rattle.rule_types.specs.Reading.{action_at, pid_count}
use Rattle.rule_types.specs.Tables.{TableSet, HoldsTableOf}
use Rattle.rule_types.specs.WellFormed.{IsRoutingStep, IsCountable, has_rate}

-- the time between two rows: a whole number of seconds, at least 1 and at most from the first of
-- the years 1 to 9999 to the last
pub record IsRowStep (q : Rational) : Type 0 where
  pub seconds : den q ≡ 1
  pub least : one ≤ℚ q
  pub most : q ≤ℚ whole (pos 315537897599)

-- a step that a state can have
unfoldable pub IsStep : Rational → Type 0
IsStep q = IsRoutingStep q ⊎ IsRowStep q

-- a link's setting, target and timer are at least 0
pub record LinkFits (link : LinkState) : Type 0 where
  pub setting : zero ≤ℚ link.setting
  pub target : zero ≤ℚ link.target
  pub timer : zero ≤ℚ link.timer

-- a state fits rules: it has their inputs and links, and a link without a rate stands at its target
pub record FitsRules (x : Rules) (s : State) : Type 0 where
  pub inputs : length s.inputs ≡ length x.input_keys
  pub links : length s.links ≡ length x.tracked
  pub link_values : All LinkFits s.links
  pub at_target :
      AllZip (λ rate link. has_rate rate ≡ false → link.target ≡ link.setting) x.rates s.links
  pub step : IsStep s.step

-- a state has one input for each input key and one link for each tracked link
pub record SameSizes (x : Rules) (s : State) : Type 0 where
  pub inputs : length s.inputs ≡ length x.input_keys
  pub links : length s.links ≡ length x.tracked

-- the actions of each branch of a rule are few enough for their places to be counted in 32 bits
pub record ActionsCounted (rule : Rule) : Type 0 where
  pub then_counted : IsCountable rule.then_actions
  pub else_counted : IsCountable rule.else_actions

-- memories fit rules: there is one for each PID action
pub record MemoriesFit (rules : List Rule) (memories : List PidMemory) : Type 0 where
  pub count : length memories ≡ pid_count rules

-- the number of a PID action is one of so many
abbrev pub PidFits : ℕ → What → Type 0
PidFits count (Constant q) = Unit {0}
PidFits count (Curve number) = Unit {0}
PidFits count (Series number) = Unit {0}
PidFits count (Pid set number) = number < count

-- the same of the action at a place, if there is one
unfoldable pub PairCounted : List Rule → ℕ → ActionAt → Type 0
PairCounted rules count at = IfSome (action_at rules at) (λ action. PidFits count action.what)

-- an action can be worked out: the table that it names is held, and its PID is one of so many
pub record ActionReady (tables : TableSet) (count : ℕ) (action : Action) : Type 0 where
  pub table : HoldsTableOf tables action.what
  pub memory : PidFits count action.what

-- the same of the action at a place, if there is one
unfoldable pub PairReady : List Rule → TableSet → ℕ → ActionAt → Type 0
PairReady rules tables count at = IfSome (action_at rules at) (ActionReady tables count)
