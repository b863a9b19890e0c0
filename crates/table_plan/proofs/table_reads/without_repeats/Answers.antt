use Rattle.std.proofs.Common.{◌==◌, IsTrue, arith}
use Rattle.std.specs.List.{list_any}
use Rattle.table_plan.proofs.CutLists.{listed_more, all_taken}
use Rattle.table_plan.proofs.table_reads.without_repeats.Goals as goal

pub loop-column-preserved : goal.loop-column-preserved
loop-column-preserved c = listed_more c.args.sorted.now c.loop-column.column-index c.loop-column.columns.items c.push_new.new.columns.items c.loop-column-test.true c.loop-column.invariant c.in_ok-push_new.ensures.others c.in_ok-push_new.ensures.there

pub returns : goal.returns
returns c = all_taken (λ column. IsTrue (list_any (λ k. k == column) c.loop-column.columns.items)) c.args.sorted.now c.loop-column.column-index (omega arith) c.loop-column.invariant
