use Rattle.std.proofs.Common.{◌∙◌}
use Rattle.box_eval.proofs.ShownAlike.{shown_in}
use Rattle.box_eval.proofs.boxes.shown.Goals as goal

pub returns : goal.returns
returns c = record {
  value =
      c.shown_with.ensures.value
      ∙ shown_in c.args.rules.now c.args.tables.now c.args.question.now c.args.cell.now
      c.as_slice.result.now (c.as_slice.ensures.value ∙ c.in_ok-truths.ensures.value);
}
