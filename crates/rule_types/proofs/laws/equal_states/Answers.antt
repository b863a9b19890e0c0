-- The `==` of states and memories tells whether two are equal.
use Rattle.rule_types.proofs.PublicLaws.{equal_states-pid_memory, equal_states-link_state, equal_states-state, equal_states-row}
use Rattle.rule_types.proofs.laws.equal_states.Goals as goal

pub returns : goal.returns
returns c = record {
  pid_memory = equal_states-pid_memory;
  link_state = equal_states-link_state;
  state = equal_states-state;
  row = equal_states-row;
}
