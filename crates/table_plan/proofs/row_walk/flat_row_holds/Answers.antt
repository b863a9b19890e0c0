use Rattle.table_plan.proofs.FlatTables.{flat_holds}
use Rattle.table_plan.proofs.row_walk.flat_row_holds.Goals as goal

pub returns : goal.returns
returns c = λ truth. flat_holds c.args.pieces.now truth c.args.row.now c.lies_among.result c.lies_among.ensures
