use Rattle.std.proofs.Common.{◌∙◌, sym}
use Rattle.rule_meaning.proofs.PublicLaws.{last_conditions-at_end}
use Rattle.box_eval.proofs.agreement.last_of.Goals as goal

pub returns : goal.returns
returns c = record {
  value = c.last.ensures.value ∙ sym (last_conditions-at_end c.args.conditions.now);
}
