use Rattle.std.proofs.Common.{sym, ◌∙◌}
use Rattle.table_plan.proofs.FlatTables.{flat_here, flat_not_here, flat_nowhere}
use Rattle.table_plan.proofs.row_walk.first_flat_row.Goals as goal

pub returns-then-flat_row_holds : goal.returns-then-flat_row_holds
returns-then-flat_row_holds c = λ truth.
    flat_here c.args.pieces.now truth c.args.rows.now c.loop-flat.flat-index _ c.loop-flat-test.true (c.loop-flat.invariant truth) (sym (c.flat_row_holds.ensures truth) ∙ c.if-flat_row_holds.true)

pub loop-flat-preserved : goal.loop-flat-preserved
loop-flat-preserved c = λ truth.
    flat_not_here c.args.pieces.now truth c.args.rows.now c.loop-flat.flat-index _ c.loop-flat-test.true (c.loop-flat.invariant truth) (sym (c.flat_row_holds.ensures truth) ∙ c.if-flat_row_holds.false)

pub returns : goal.returns
returns c = λ truth. flat_nowhere c.args.pieces.now truth c.args.rows.now c.loop-flat.flat-index c.loop-flat-test.false (c.loop-flat.invariant truth)
