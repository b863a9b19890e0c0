use Rattle.std.proofs.Common.{◌∙◌, ap, sym}
use Rattle.verdict_meaning.specs.Grids.{piece_number}
use Rattle.grid_samples.proofs.numbers.piece_number.Goals as goal

pub returns-in-Bound : goal.returns-in-Bound
returns-in-Bound c = record {
  value =
      c.number_up_to.ensures.value c.in-Bound.field-1
      ∙ ap (λ low. piece_number low c.args.high.now) (sym c.in-Bound.is);
}
