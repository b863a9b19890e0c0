use Rattle.std.proofs.Common.{◌≡◌, ◌-◌, ◌+◌, ◌<◌, ◌∙◌, ap, drop, length, arith}
use Rattle.verdict_meaning.specs.Questions.{in_key_order}
use Rattle.question_boxes.proofs.Additions.{none_ordered, one_ordered}
use Rattle.question_boxes.proofs.order.in_key_order.Goals as goal

pub back-init : goal.back-init
back-init c = (
  c.new-set.ensures.empty ∙ none_ordered c.args.keys.now (length c.args.keys.now) (omega arith),
  omega arith,
)

pub back-preserved : goal.back-preserved
back-preserved c =
    let step : c.back.at ≡ (c.back.at - 1) + 1 = omega (arith, c.back-test.true) in
    let within : c.back.at - 1 < length c.args.keys.now = omega (arith, c.back-test.true, c.back.invariant.1) in (
      one_ordered c.args.keys.now c.back.set.keys c.insert.new.set.keys (c.back.at - 1) _ within
          (c.back.invariant.0 ∙ ap (λ k. in_key_order (drop k c.args.keys.now)) step)
          c.in_ok-insert.ensures.inserted,
      omega (arith, within),
    )
