use Rattle.std.proofs.Common.{[], ◌∷◌}
use Rattle.std.proofs.lemmas.Result.{on_ok_weaker}
use Rattle.grid_cuts.proofs.AddedCuts.{adds_both}
use Rattle.grid_cuts.proofs.conditions.add_both.Goals as goal

pub returns : goal.returns
returns c = record {
  adds =
      on_ok_weaker c.add_within-2.result
      (λ later.
      adds_both c.args.wanted.now c.args.list.now.items c.add_within.new.list.items
      c.add_within-2.new.list.items (c.args.low.now ∷ []) (c.args.high.now ∷ [])
      c.in_ok-add_within.ensures.adds later)
      c.add_within-2.ensures.adds;
}
