use Rattle.std.proofs.Common.{◌∙◌, ap}
use Rattle.premise_eval.specs.Columns.{value_in}
use Rattle.table_run.proofs.PieceValues.{left_read}
use Rattle.table_run.proofs.pieces.left_value.Goals as goal

pub returns : goal.returns
returns c = record {
  value = λ side h.
      c.value_in.ensures.value ∙ ap (λ l. value_in l c.args.at) c.columns.ensures.value
      ∙ left_read c.args.rules.now c.args.state.now c.args.values.now side c.args.at c.requires.sound h;
}
