use Rattle.std.proofs.Common.{◌≡◌, [], ◌∷◌, ◌++◌, ◌+◌, ◌*◌, ◌-◌, ◌^◌, min, ap, sym, ◌∙◌, take, arith}
use Rattle.std.proofs.lemmas.List.{take_more}
use Rattle.grid_blocks.specs.GridBoxes.{piece_count}
use Rattle.grid_cuts.proofs.CellCounts.{first_written, one_more_written}
use Rattle.grid_cuts.proofs.counting.cell_count.Goals as goal

pub loop-axis-init : goal.loop-axis-init
loop-axis-init c = first_written c.args.moments (omega (arith, c.ranges.moments))

pub loop-axis-preserved : goal.loop-axis-preserved
loop-axis-preserved c =
    let all = c.args.axes.now in
    let one = c.axis-item.result in
    let at = c.loop-axis.axis-index in
    let more : take (at + 1) all ≡ take at all ++ one ∷ [] =
    take_more all at one c.loop-axis-test.true
    ∙ ap (λ r. take at all ++ r ∷ []) (sym c.axis-item.is) in
    one_more_written (take at all) (take (at + 1) all) one c.args.moments c.loop-axis.count
    c.saturating_mul-count.result more c.loop-axis.invariant
    (c.saturating_mul-count.ensures
    ∙ ap (λ n. min (c.loop-axis.count * n) (2 ^ 64 - 1))
    (c.piece_count.ensures.value ∙ ap piece_count c.as_slice.ensures.value))
