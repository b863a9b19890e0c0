use Rattle.std.proofs.Common.{◌≡◌, ◌-◌, ◌+◌, ◌<◌, drop, length, subst, arith}
use Rattle.box_eval.specs.internal.Known.{AreTruthsBy}
use Rattle.box_eval.proofs.Marks.{back_begins, back_goes}
use Rattle.box_eval.proofs.truths.tell.Goals as goal

pub back-init : goal.back-init
back-init c = (
  back_begins c.args.facts.now c.args.truths.now (length c.args.facts.now) c.requires.open
      (omega arith),
  omega arith,
)

pub back-preserved : goal.back-preserved
back-preserved c =
    let step : c.back.at ≡ (c.back.at - 1) + 1 = omega (arith, c.back-test.true) in
    let within : c.back.at - 1 < length c.args.facts.now = omega (arith, c.back-test.true, c.back.invariant.1) in (
      back_goes c.args.facts.now (c.back.at - 1) (length c.args.truths.now) _ c.back.truths
          c.tell_one.new.truths within
          (subst
          (λ k. AreTruthsBy (drop k c.args.facts.now) (length c.args.truths.now) c.back.truths)
          step c.back.invariant.0)
          c.tell_one.ensures.told,
      omega (arith, within),
    )
