use Rattle.std.proofs.Common.{◌≡◌, length}
use Rattle.table_run.specs.internal.Firsts.{FirstsTo}
use Rattle.table_run.proofs.firsts.order_all.Given as goal

abbrev pub invariant-loop-table : goal.invariant-loop-table
invariant-loop-table g l = record {
  firsts : FirstsTo l.plan l.pieces (g.T.Truths.truth l.truths) l.table l.firsts;
  each : length l.firsts ≡ length l.fn.firsts;
}
