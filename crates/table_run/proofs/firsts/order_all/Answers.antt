use Rattle.std.proofs.Common.{◌<◌, ◌≤◌, ◌∙◌, length, refl, arith}
use Rattle.std.proofs.lemmas.List.{length-set}
use Rattle.table_run.proofs.FirstSteps.{no_firsts, one_first, all_firsts}
use Rattle.table_run.proofs.firsts.order_all.Goals as goal

pub loop-table-init : goal.loop-table-init
loop-table-init g c = record {
  firsts = no_firsts c.args.plan.now c.args.pieces.now (g.T.Truths.truth c.args.truths.now) c.args.firsts.now;
  each = refl;
}

pub loop-table-preserved : goal.loop-table-preserved
loop-table-preserved g c =
    let within : c.loop-table.table < length c.loop-table.firsts = omega (arith, c.loop-table-test.true, c.loop-table.invariant.each) in
    record {
      firsts = one_first c.args.plan.now c.args.pieces.now (g.T.Truths.truth c.args.truths.now) c.loop-table.firsts c.loop-table.table c.first_row-first.result
          c.loop-table.invariant.firsts within c.first_row-first.ensures.first;
      each = length-set c.loop-table.firsts c.loop-table.table c.first_row-first.result ∙ c.loop-table.invariant.each;
    }

pub returns-clause-firsts : goal.returns-clause-firsts
returns-clause-firsts g c =
    let past : length c.loop-table.firsts ≤ c.loop-table.table = omega (arith, c.loop-table-test.false, c.loop-table.invariant.each) in
    all_firsts c.args.plan.now c.args.pieces.now (g.T.Truths.truth c.args.truths.now) c.loop-table.firsts c.loop-table.table c.loop-table.invariant.firsts past
