use Rattle.std.proofs.Common.{rules, [], ◌∷◌, sym, true≢false}
use Rattle.std.proofs.lemmas.List.Elements.{All-head}
use Rattle.object_index.specs.examples.Objects.{network, depth, variable, status, if_above, close}
use Rattle.object_index.specs.Holding.{HoldsCondition, HoldsKind, HoldsLink}
use Rattle.object_index.proofs.laws.held_examples.Goals as goal

pub returns : goal.returns
returns c = record {
  each_there = search rules;
  no_node = λ h. true≢false (sym (All-head (λ named. HoldsKind network named.stands_for) (variable (depth 1)) [] h.names));
  none_tracked = λ h. true≢false (sym (All-head (HoldsLink network) 4 (3 ∷ []) h.tracked));
  none_read = λ h. true≢false (sym (All-head (HoldsCondition network) (if_above (status 4)) [] h.conditions).left);
  none_closed = λ h. true≢false (sym (All-head (λ action. HoldsLink network action.link) (close 4) [] h.then_actions));
  then_there = search rules;
}
