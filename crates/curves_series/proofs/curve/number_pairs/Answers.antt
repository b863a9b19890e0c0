use Rattle.std.proofs.Common.{map}
use Rattle.curves_series.specs.internal.Views.{pair_now}
use Rattle.curves_series.proofs.PairSteps.{pair_step, odd_end, even_end}
use Rattle.curves_series.proofs.curve.number_pairs.Goals as goal

pub pairing-preserved : goal.pairing-preserved
pairing-preserved c =
    pair_step c.args.found.now c.pairing.pairs.items _ c.number_pair-pair.result c.pairing.at _ _
    c.pairing-test.true c.in-Ok.ensures.items c.number_pair-pair.ensures.value c.pairing.invariant.0

pub returns-then-at-found : goal.returns-then-at-found
returns-then-at-found c = record {
  value =
      odd_end c.args.found.now (map pair_now c.pairing.pairs.items) c.pairing.at c.if-at-found.true
      c.pairing-test.false c.pairing.invariant.0;
}

pub returns : goal.returns
returns c = record {
  value =
      even_end c.args.found.now (map pair_now c.pairing.pairs.items) c.pairing.at
      c.if-at-found.false c.pairing.invariant.0;
}
