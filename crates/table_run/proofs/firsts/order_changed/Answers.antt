use Rattle.std.proofs.Common.{◌<◌, ◌≤◌, ◌∙◌, length, arith}
use Rattle.std.proofs.lemmas.List.{length-set}
use Rattle.table_run.proofs.FirstSteps.{no_firsts, one_first, all_firsts, kept_first}
use Rattle.table_run.proofs.firsts.order_changed.Goals as goal

pub loop-table-init : goal.loop-table-init
loop-table-init g c = record {
  next = λ other are. no_firsts c.args.plan.now c.args.new.now (g.T.Truths.truth c.args.truths.now) c.args.next.now;
  each = c.requires.each;
}

pub loop-table-preserved : goal.loop-table-preserved
loop-table-preserved g c =
    let within : c.loop-table.table < length c.loop-table.next = omega (arith, c.loop-table-test.true, c.loop-table.invariant.each) in
    record {
      next = λ other are.
          one_first c.args.plan.now c.args.new.now (g.T.Truths.truth c.args.truths.now) c.loop-table.next c.loop-table.table c.order_of-first.result
          (c.loop-table.invariant.next other are) within
          (c.order_of-first.ensures.first other (kept_first c.args.plan.now c.args.old.now other c.args.firsts.now c.loop-table.table _ are c.loop-table-test.true));
      each = length-set c.loop-table.next c.loop-table.table c.order_of-first.result ∙ c.loop-table.invariant.each;
    }

pub returns-clause-next : goal.returns-clause-next
returns-clause-next g c = λ other are.
    let past : length c.loop-table.next ≤ c.loop-table.table = omega (arith, c.loop-table-test.false, c.loop-table.invariant.each) in
    all_firsts c.args.plan.now c.args.new.now (g.T.Truths.truth c.args.truths.now) c.loop-table.next c.loop-table.table (c.loop-table.invariant.next other are) past
