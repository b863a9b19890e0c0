use Rattle.std.proofs.Common.{◌≡◌, ◌+◌, ◌-◌, ◌*◌, ◌/◌, ◌<◌, length, sym, subst, arith}
use Rattle.std.specs.Ordering.{MatchOrdering}
use Rattle.std.specs.declared.cmp.Ordering.{Ordering}
use Rattle.table_plan.specs.Pieces.{piece}
use Rattle.table_plan.proofs.PieceOrder.{look_tells, piece_most}
use Rattle.table_plan.proofs.PieceSteps.{narrow_step, few_step}
use Rattle.table_plan.proofs.piece_search.piece_of.Goals as goal

pub loop-low-init : goal.loop-low-init
loop-low-init g c = record {
  within = omega arith;
  inside = omega arith;
  rising = c.count-high.ensures.rising;
  least = omega arith;
  most = let most = piece_most c.args.cuts.now c.args.x in omega arith;
  counted = omega arith;
  spent = omega arith;
  narrow = let none : c.args.steps.now - c.args.steps.now ≡ 0 = omega arith in rw none (omega arith);
  few = let none : c.args.steps.now - c.args.steps.now ≡ 0 = omega arith in rw none (omega arith);
}

pub loop-low-preserved-in-Less : goal.loop-low-preserved-in-Less
loop-low-preserved-in-Less g c =
    let middle = c.loop-low.low + (c.loop-low.high - c.loop-low.low) / 2 in
    let told = look_tells c.args.cuts.now c.args.x middle c.probe.result c.loop-low.invariant.rising (omega arith) c.probe.ensures.order in
    let stands : piece c.args.cuts.now c.args.x < 2 * middle + 1 =
    subst (λ (o : Ordering). MatchOrdering o (piece c.args.cuts.now c.args.x < 2 * middle + 1) (piece c.args.cuts.now c.args.x ≡ 2 * middle + 1) (2 * middle + 1 < piece c.args.cuts.now c.args.x)) c.in-Less.is told in
    record {
      within = omega arith;
      inside = omega arith;
      rising = c.loop-low.invariant.rising;
      least = omega arith;
      most = omega arith;
      counted = omega arith;
      spent = omega arith;
      narrow = narrow_step c.args.steps.now c.loop-low.steps c.probe.new.steps (c.loop-low.high - c.loop-low.low) (middle - c.loop-low.low) (length c.args.cuts.now) c.loop-low.invariant.counted c.probe.ensures.step (omega arith) c.loop-low.invariant.narrow;
      few = few_step c.args.steps.now c.loop-low.steps c.probe.new.steps (c.loop-low.high - c.loop-low.low) (length c.args.cuts.now) c.loop-low.invariant.counted c.probe.ensures.step (omega arith) c.loop-low.invariant.narrow;
    }

pub returns-in-Equal-clause-piece : goal.returns-in-Equal-clause-piece
returns-in-Equal-clause-piece g c =
    let middle = c.loop-low.low + (c.loop-low.high - c.loop-low.low) / 2 in
    let told = look_tells c.args.cuts.now c.args.x middle c.probe.result c.loop-low.invariant.rising (omega arith) c.probe.ensures.order in
    sym (subst (λ (o : Ordering). MatchOrdering o (piece c.args.cuts.now c.args.x < 2 * middle + 1) (piece c.args.cuts.now c.args.x ≡ 2 * middle + 1) (2 * middle + 1 < piece c.args.cuts.now c.args.x)) c.in-Equal.is told)

pub returns-in-Equal-clause-few : goal.returns-in-Equal-clause-few
returns-in-Equal-clause-few g c =
    few_step c.args.steps.now c.loop-low.steps c.probe.new.steps (c.loop-low.high - c.loop-low.low) (length c.args.cuts.now) c.loop-low.invariant.counted c.probe.ensures.step (omega arith) c.loop-low.invariant.narrow

pub loop-low-preserved : goal.loop-low-preserved
loop-low-preserved g c =
    let middle = c.loop-low.low + (c.loop-low.high - c.loop-low.low) / 2 in
    let told = look_tells c.args.cuts.now c.args.x middle c.probe.result c.loop-low.invariant.rising (omega arith) c.probe.ensures.order in
    let stands : 2 * middle + 1 < piece c.args.cuts.now c.args.x =
    subst (λ (o : Ordering). MatchOrdering o (piece c.args.cuts.now c.args.x < 2 * middle + 1) (piece c.args.cuts.now c.args.x ≡ 2 * middle + 1) (2 * middle + 1 < piece c.args.cuts.now c.args.x)) c.in-Greater.is told in
    record {
      within = omega arith;
      inside = c.loop-low.invariant.inside;
      rising = c.loop-low.invariant.rising;
      least = omega arith;
      most = c.loop-low.invariant.most;
      counted = omega arith;
      spent = omega arith;
      narrow = narrow_step c.args.steps.now c.loop-low.steps c.probe.new.steps (c.loop-low.high - c.loop-low.low) (c.loop-low.high - (middle + 1)) (length c.args.cuts.now) c.loop-low.invariant.counted c.probe.ensures.step (omega arith) c.loop-low.invariant.narrow;
      few = few_step c.args.steps.now c.loop-low.steps c.probe.new.steps (c.loop-low.high - c.loop-low.low) (length c.args.cuts.now) c.loop-low.invariant.counted c.probe.ensures.step (omega arith) c.loop-low.invariant.narrow;
    }
