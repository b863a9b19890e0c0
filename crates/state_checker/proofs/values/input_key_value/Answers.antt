use Rattle.std.proofs.Common.{◌∙◌, sym}
use Rattle.rule_meaning.proofs.PublicLaws.{keys_by_place-of_input}
use Rattle.state_checker.proofs.values.input_key_value.Goals as goal

pub returns : goal.returns
returns c = record {
  value = c.input_value.ensures.value ∙ sym (keys_by_place-of_input c.args.rules.now c.args.state.now c.args.key.now c.requires.input);
}
