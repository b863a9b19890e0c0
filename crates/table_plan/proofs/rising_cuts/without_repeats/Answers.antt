use Rattle.std.proofs.Common.{sym}
use Rattle.std.proofs.Common.{arith}
use Rattle.table_plan.specs.Pieces.{IsCut}
use Rattle.table_plan.proofs.CutLists.{cuts_more, above_more, all_taken}
use Rattle.table_plan.proofs.rising_cuts.without_repeats.Goals as goal

pub loop-end-preserved : goal.loop-end-preserved
loop-end-preserved c = record {
  rising = c.in_ok-push_above.ensures.rising;
  cuts = cuts_more c.args.sorted.now c.loop-end.end-index c.end-item.result c.loop-end.cuts.items c.push_above.new.cuts.items c.loop-end-test.true c.end-item.is c.loop-end.invariant.cuts c.in_ok-push_above.ensures.others c.in_ok-push_above.ensures.cut;
  from = c.in_ok-push_above.ensures.from c.args.sorted.now (c.loop-end.end-index, c.loop-end-test.true, sym c.end-item.is) c.loop-end.invariant.from;
  above = above_more c.args.sorted.now c.loop-end.end-index c.end-item.result c.loop-end.cuts.items c.push_above.new.cuts.items c.requires c.loop-end-test.true c.end-item.is c.loop-end.invariant.above c.in_ok-push_above.ensures.among;
}

pub returns-clause-cuts : goal.returns-clause-cuts
returns-clause-cuts c = all_taken (IsCut c.loop-end.cuts.items) c.args.sorted.now c.loop-end.end-index (omega arith) c.loop-end.invariant.cuts

pub returns-clause-from : goal.returns-clause-from
returns-clause-from c = c.loop-end.invariant.from
