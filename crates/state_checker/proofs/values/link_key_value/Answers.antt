use Rattle.std.proofs.Common.{◌∙◌, sym}
use Rattle.rule_meaning.proofs.PublicLaws.{keys_by_place-of_link}
use Rattle.state_checker.proofs.values.link_key_value.Goals as goal

pub returns : goal.returns
returns c = record {
  value = c.link_attribute.ensures.value ∙ sym (keys_by_place-of_link c.args.rules.now c.args.state.now c.args.object.now c.args.attribute.now c.requires.reads);
}
