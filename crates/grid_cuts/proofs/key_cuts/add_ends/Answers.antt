use Rattle.std.proofs.lemmas.Result.{on_ok_weaker}
use Rattle.verdict_meaning.specs.Grids.{end_numbers}
use Rattle.grid_cuts.proofs.AddedCuts.{adds-then}
use Rattle.grid_cuts.proofs.key_cuts.add_ends.Goals as goal

pub returns : goal.returns
returns c = record {
  adds =
      on_ok_weaker c.add_end-2.result
      (λ later.
      adds-then c.args.list.now.items c.add_end.new.list.items c.add_end-2.new.list.items
      (end_numbers c.args.range.now.low) (end_numbers c.args.range.now.high)
      c.in_ok-add_end.ensures.adds later)
      c.add_end-2.ensures.adds;
}
