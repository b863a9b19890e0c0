use Rattle.std.proofs.Common.{sym, subst, ◌∙◌}
use Rattle.block_search.specs.Blocks.{IsWithin}
use Rattle.grid_blocks.specs.GridBoxes.{lengths}
use Rattle.grid_trees.specs.GridJudgements.{judgement_of}
use Rattle.grid_events.proofs.PublicLaws.{blocks-whole}
use Rattle.verdict_search.proofs.deciding.search_grid.Goals as goal

pub decide-requires-clause-within : goal.decide-requires-clause-within
unfolding judgement_of
decide-requires-clause-within c =
    let grid = c.args.task.now.grid.now in
    subst (IsWithin (lengths grid)) (sym (c.deref.ensures.value ∙ c.in_ok-block.ensures.value))
    (blocks-whole (lengths grid))
