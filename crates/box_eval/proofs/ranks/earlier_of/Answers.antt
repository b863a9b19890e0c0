use Rattle.std.proofs.Common.{◌∙◌, sym}
use Rattle.box_eval.proofs.FirstActing.{new_precedes, old_precedes}
use Rattle.box_eval.proofs.ranks.earlier_of.Goals as goal

pub returns-then-rule_precedes : goal.returns-then-rule_precedes
returns-then-rule_precedes c = record {
  each =
      new_precedes c.args.rules.now c.args.number c.in-Some.before c.args.first c.in-Some.is
      (sym c.rule_precedes.ensures.value ∙ c.if-rule_precedes.true);
}

pub returns-else-rule_precedes : goal.returns-else-rule_precedes
returns-else-rule_precedes c = record {
  each =
      old_precedes c.args.rules.now c.args.number c.in-Some.before c.args.first c.in-Some.is
      (sym c.rule_precedes.ensures.value ∙ c.if-rule_precedes.false);
}
