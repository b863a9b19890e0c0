use Rattle.std.proofs.Common.{◌+◌, ◌-◌, ◌/◌, sym, ◌∙◌, arith}
use Rattle.curves_series.proofs.PlaceValues.{up_step, down_step}
use Rattle.curves_series.proofs.values.count_below.Goals as goal

pub halving-preserved-then-is_less : goal.halving-preserved-then-is_less
halving-preserved-then-is_less c =
    let l = c.halving in (
      omega (arith, l.invariant.0, c.halving-test.true),
      l.invariant.1,
      up_step c.args.points.now c.args.x.now (l.low + (l.high - l.low) / 2)
          c.index-points-middle.result c.requires.points (omega (arith, l.invariant.1, c.halving-test.true))
          (sym c.is_less.ensures.value ∙ c.if-is_less.true),
      l.invariant.3,
    )

pub halving-preserved : goal.halving-preserved
halving-preserved c =
    let l = c.halving in (
      omega (arith, l.invariant.0, c.halving-test.true),
      omega (arith, l.invariant.1, c.halving-test.true),
      l.invariant.2,
      down_step c.args.points.now c.args.x.now (l.low + (l.high - l.low) / 2)
          c.index-points-middle.result c.requires.points (omega (arith, l.invariant.1, c.halving-test.true))
          (sym c.is_less.ensures.value ∙ c.if-is_less.false),
    )
