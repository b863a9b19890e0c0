use Rattle.std.proofs.Common.{◌/◌, sym, ap, ◌∙◌}
use Rattle.std.specs.Option.{option_copied}
use Rattle.exact_fraction.specs.Number.{zero}
use Rattle.grid_blocks.proofs.BoxSteps.{read_none}
use Rattle.grid_blocks.proofs.boxes.cut_at.Goals as goal

pub returns-in-None : goal.returns-in-None
returns-in-None c = record {
  value =
      c.zero.ensures.value
      ∙ read_none c.args.axis.now.cuts (c.args.piece / 2) zero
      (sym c.get.ensures.value ∙ ap option_copied c.in-None.is);
}
