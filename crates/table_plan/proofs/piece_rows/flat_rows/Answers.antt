use Rattle.table_plan.proofs.FlatTables.{flat_more}
use Rattle.table_plan.proofs.piece_rows.flat_rows.Goals as goal

pub loop-row-preserved : goal.loop-row-preserved
loop-row-preserved c =
    flat_more c.loop-row.flat.items c.push.new.self.items c.in-Some.piece_row c.args.rows.now c.loop-row.row-index c.row-item.result c.loop-row-test.true c.row-item.is c.in_ok-push.ensures.items c.loop-row.invariant c.in-Some.ensures
