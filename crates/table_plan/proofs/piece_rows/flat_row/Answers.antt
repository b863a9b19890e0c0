use Rattle.std.proofs.Common.{◌≡◌, length, arith}
use Rattle.table_plan.proofs.FlatTables.{one_only, flat_is}
use Rattle.table_plan.proofs.piece_rows.flat_row.Goals as goal

pub returns : goal.returns
returns c =
    let one : length c.as_slice.result.now ≡ 1 = omega (arith, c.in-len1.len_at_least, c.in-len1.len_below) in
    flat_is c.args.row.now c.as_slice.result.now c.clause-item.result c.in_ok-range.range c.as_slice.ensures.value
    (one_only c.as_slice.result.now c.clause-item.result one c.clause-item.is) c.in_ok-range.ensures
