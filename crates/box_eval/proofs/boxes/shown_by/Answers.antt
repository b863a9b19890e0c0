use Rattle.std.proofs.Common.{◌∙◌, sym, subst, length}
use Rattle.box_eval.specs.internal.Known.{AreTruthsBy}
use Rattle.box_eval.proofs.ShownAlike.{shown_facts}
use Rattle.box_eval.proofs.boxes.shown_by.Goals as goal

pub returns : goal.returns
returns c = record {
  value =
      c.shown_with.ensures.value
      ∙ shown_facts c.args.rules.now c.args.tables.now c.args.question.now c.args.cell.now
      c.args.facts.now c.as_slice-2.result.now c.requires.fit
      (subst (AreTruthsBy c.args.facts.now (length c.args.rules.now.rules))
      (sym c.as_slice-2.ensures.value)
      (subst
      (λ facts.
      AreTruthsBy facts (length c.args.rules.now.rules) c.in_ok-truths.truths.items)
      c.as_slice.ensures.value c.in_ok-truths.ensures.value));
}
