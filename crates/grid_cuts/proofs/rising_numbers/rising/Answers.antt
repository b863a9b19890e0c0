use Rattle.std.proofs.Common.{◌≡◌, ◌-◌, ◌+◌, ◌<◌, ◌∙◌, ap, drop, length, map, arith}
use Rattle.verdict_meaning.specs.Grids.{rising}
use Rattle.grid_cuts.specs.internal.NumberOrder.{number_of}
use Rattle.grid_cuts.proofs.RisingCuts.{none_rising, one_rising}
use Rattle.grid_cuts.proofs.rising_numbers.rising.Goals as goal

pub back-init : goal.back-init
back-init c = (
  ap (map number_of) c.new-set.ensures.empty
      ∙ none_rising c.args.numbers.now (length c.args.numbers.now) (omega arith),
  omega arith,
)

pub back-preserved : goal.back-preserved
back-preserved c =
    let step : c.back.at ≡ (c.back.at - 1) + 1 = omega (arith, c.back-test.true) in
    let within : c.back.at - 1 < length c.args.numbers.now =
    omega (arith, c.back-test.true, c.back.invariant.1) in (
      one_rising c.args.numbers.now c.back.set.keys c.insert.new.set.keys (c.back.at - 1)
          c.index-numbers-at.result within c.index-numbers-at.is
          (c.back.invariant.0 ∙ ap (λ k. rising (drop k c.args.numbers.now)) step)
          c.in_ok-insert.ensures.inserted,
      omega (arith, within),
    )
