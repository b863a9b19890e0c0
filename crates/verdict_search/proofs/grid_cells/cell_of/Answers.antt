use Rattle.std.proofs.Common.{◌≡◌, false, sym, subst, ◌∙◌}
use Rattle.std.specs.List.{list_any}
use Rattle.block_search.specs.Blocks.{is_none, IsWithin}
use Rattle.grid_blocks.specs.GridBoxes.{lengths}
use Rattle.verdict_search.proofs.OneCellBlocks.{has_cell, pieces_short}
use Rattle.verdict_search.proofs.grid_cells.cell_of.Goals as goal

pub block_of-requires : goal.block_of-requires
block_of-requires c = record {
  short =
      pieces_short (lengths c.args.grid.now) c.args.cell.now c.requires.short c.requires.within;
}

pub box_of-requires-clause-within : goal.box_of-requires-clause-within
box_of-requires-clause-within c =
    subst (IsWithin (lengths c.args.grid.now))
    (sym (c.deref.ensures.value ∙ c.in_ok-block.ensures.value)) c.requires.within

pub box_of-requires-clause-some : goal.box_of-requires-clause-some
box_of-requires-clause-some c =
    subst (λ block. list_any is_none block ≡ false)
    (sym (c.deref.ensures.value ∙ c.in_ok-block.ensures.value)) (has_cell c.args.cell.now)
