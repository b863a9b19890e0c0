use Rattle.std.proofs.Common.{◌<◌, ◌^◌, sym, subst}
use Rattle.std.specs.Prelude.{All}
use Rattle.grid_blocks.specs.GridBoxes.{piece_count}
use Rattle.grid_blocks.proofs.BoxSteps.{few_of_keys, few_of_moments}
use Rattle.grid_blocks.proofs.grid.Grid.lengths.Goals as goal

pub key_counts-requires : goal.key_counts-requires
key_counts-requires c = record {
  few =
      subst (All (λ axis. piece_count axis.cuts < 2 ^ 32)) (sym c.as_slice.ensures.value)
      (few_of_keys c.args.self.now c.requires.few);
}

pub moment_pieces-requires : goal.moment_pieces-requires
moment_pieces-requires c = record {
  few = few_of_moments c.args.self.now c.in-Some.pieces c.requires.few c.in-Some.is;
}
