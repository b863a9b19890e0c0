-- Rules and states whose values are found by halving.
use Rattle.std.specs.Prelude.{◌≡◌, length}
use Rattle.rule_types.specs.WellFormed.{InOrder}
use Rattle.rule_types.specs.declared.rules.Rules.{Rules}
use Rattle.rule_types.specs.declared.state.State.{State}

-- keys and links in order, with an input for each input key and a state for each tracked link
pub record IsOrdered (x : Rules) (s : State) : Type 0 where
  pub order : InOrder x
  pub inputs : length s.inputs ≡ length x.input_keys
  pub links : length s.links ≡ length x.tracked
