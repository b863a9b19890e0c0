use Rattle.std.proofs.Common.{◌≡◌, [], ◌∷◌, ◌++◌, ◌+◌, ap, sym, ◌∙◌, take}
use Rattle.std.proofs.lemmas.List.{take_more}
use Rattle.verdict_meaning.specs.Grids.{condition_cuts}
use Rattle.grid_cuts.proofs.AddedCuts.{adds_more}
use Rattle.grid_cuts.proofs.conditions.add_conditions.Goals as goal

pub loop-condition-preserved : goal.loop-condition-preserved
loop-condition-preserved c =
    let all = c.args.conditions.now in
    let one = c.condition-item.result in
    let at = c.loop-condition.condition-index in
    let wanted = c.args.wanted.now in
    let more : take (at + 1) all ≡ take at all ++ one ∷ [] =
    take_more all at one c.loop-condition-test.true
    ∙ ap (λ r. take at all ++ r ∷ []) (sym c.condition-item.is) in
    adds_more wanted (condition_cuts c.args.names.now wanted.step wanted.key) c.args.list.now.items
    c.loop-condition.list.items c.add_condition.new.list.items (take at all) (take (at + 1) all)
    one more c.loop-condition.invariant c.in_ok-add_condition.ensures.adds
