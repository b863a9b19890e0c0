use Rattle.std.proofs.Common.{[], Some, true, false, map, refl, sym, ap, ◌∙◌}
use Rattle.block_search.specs.Blocks.{low_of}
use Rattle.block_search.proofs.Searching.{one_open}
use Rattle.block_search.proofs.open_cell.one_open.Goals as goal

pub returns-then-shown : goal.returns-then-shown
returns-then-shown g c = record {
  first =
      one_open (g.T.Task.judged c.args.task.now) c.args.block.now
      (map low_of c.args.block.now) true c.requires.some c.requires.one refl
      (sym c.in_ok-shown.ensures.value ∙ c.if-shown.true);
}

pub returns : goal.returns
returns g c = record {
  first =
      ap Some c.from_vec.ensures.value
      ∙ one_open (g.T.Task.judged c.args.task.now) c.args.block.now c.in_ok-cell.cell.items false
      c.requires.some c.requires.one c.in_ok-cell.ensures.value
      (sym c.in_ok-shown.ensures.value ∙ c.if-shown.false);
}
