-- A state at which conditions are asked.
use Rattle.rule_types.specs.declared.rules.Rules.{Rules}
use Rattle.rule_types.specs.declared.state.State.{State}

-- rules at a state
pub record StateOfRules : Type 0 where
  pub rules : Rules
  pub state : State
