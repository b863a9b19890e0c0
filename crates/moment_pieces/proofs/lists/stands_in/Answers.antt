use Rattle.std.proofs.Common.{◌∙◌}
use Rattle.moment_pieces.proofs.Ranks.{found_rank, found_stands}
use Rattle.moment_pieces.proofs.lists.stands_in.Goals as goal

pub returns : goal.returns
returns c = record {
  value = c.is_ok.ensures.value ∙ found_stands c.args.list.now c.args.n c.binary_search.result (found_rank c.args.list.now c.args.n c.binary_search.result c.requires.rising c.binary_search.ensures.position);
}
