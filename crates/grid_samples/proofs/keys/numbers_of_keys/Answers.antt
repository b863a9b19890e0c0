use Rattle.std.proofs.Common.{rules, ◌≡◌, ◌-◌, ◌+◌, ◌<◌, ◌∙◌, ap, drop, length, refl, arith}
use Rattle.grid_samples.proofs.Placing.{none_placed, of_keys, one_placed}
use Rattle.grid_samples.proofs.keys.numbers_of_keys.Goals as goal

pub back-init : goal.back-init
back-init c = (
  none_placed c.args.keys.now c.args.numbers.now c.in_ok-list.list.items (length c.args.keys.now)
      (length c.args.numbers.now)
      (c.in_ok-list.ensures.items_if_clones_equal (λ y h. search rules)) refl (omega arith),
  omega arith,
  omega (arith, c.in_ok-list.ensures.len),
)

pub back-preserved : goal.back-preserved
back-preserved c =
    let step : c.back.at ≡ (c.back.at - 1) + 1 = omega (arith, c.back-test.true) in
    let within : c.back.at - 1 < length c.args.numbers.now = omega (arith, c.back-test.true, c.back.invariant.1) in (
      one_placed c.args.keys.now c.args.numbers.now c.back.list.items c.place.new.list.items
          (c.back.at - 1) c.index-numbers-at.result within c.index-numbers-at.is
          (c.back.invariant.0 ∙ ap (λ k. of_keys c.args.keys.now (drop k c.args.numbers.now)) step)
          c.place.ensures.placed,
      omega (arith, within),
      c.place.ensures.long,
    )
