use Rattle.std.proofs.Common.{sym, ap, ◌∙◌}
use Rattle.std.specs.Option.{option_copied}
use Rattle.grid_blocks.proofs.BoxSteps.{read_none}
use Rattle.grid_blocks.proofs.boxes.first_moment.Goals as goal

pub returns-in-None : goal.returns-in-None
returns-in-None c = record {
  value =
      read_none c.args.pieces.now.firsts c.args.piece c.args.pieces.now.last
      (sym c.get.ensures.value ∙ ap option_copied c.in-None.is);
}
