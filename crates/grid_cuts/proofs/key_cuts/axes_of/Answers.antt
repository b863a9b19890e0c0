use Rattle.std.proofs.Common.{◌≡◌, [], ◌∷◌, ◌++◌, ◌+◌, ap, sym, ◌∙◌, take}
use Rattle.std.proofs.lemmas.List.{take_more}
use Rattle.grid_cuts.proofs.WholeGrids.{axes_more}
use Rattle.grid_cuts.proofs.key_cuts.axes_of.Goals as goal

pub loop-entry-preserved : goal.loop-entry-preserved
loop-entry-preserved c =
    let all = c.args.entries.now in
    let one = c.entry-item.result in
    let at = c.loop-entry.entry-index in
    let more : take (at + 1) all ≡ take at all ++ one ∷ [] =
    take_more all at one c.loop-entry-test.true
    ∙ ap (λ r. take at all ++ r ∷ []) (sym c.entry-item.is) in
    axes_more c.args.rules.now c.args.question.now (take at all) (take (at + 1) all) one
    c.loop-entry.axes.items c.push.new.self.items c.in_ok-axis_of.field-0 more
    c.loop-entry.invariant c.in_ok-axis_of.ensures.value c.in_ok-axis_of.ensures.whole
    c.in_ok-push.ensures.items
