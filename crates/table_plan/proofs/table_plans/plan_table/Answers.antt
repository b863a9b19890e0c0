use Rattle.table_plan.proofs.FlatTables.{flat_made}
use Rattle.table_plan.proofs.KeptRows.{knows_made}
use Rattle.table_plan.proofs.table_plans.plan_table.Goals as goal

pub returns-clause-reads : goal.returns-clause-reads
returns-clause-reads c =
    knows_made c.in_ok-read.read.items c.from_vec.result c.has_number-by_number.result c.in_ok-flat.flat c.in_ok-rows.rows.items c.as_slice.result.now c.as_slice-2.result.now c.from_vec-2.result
    c.from_vec.ensures.value c.from_vec-2.ensures.value c.as_slice.ensures.value c.as_slice-2.ensures.value c.in_ok-read.ensures c.has_number-by_number.ensures

pub returns-clause-flat : goal.returns-clause-flat
returns-clause-flat c =
    flat_made c.from_vec.result c.has_number-by_number.result c.in_ok-flat.flat c.in_ok-rows.rows.items c.as_slice-3.result.now c.from_vec-2.result c.from_vec-2.ensures.value c.as_slice-3.ensures.value c.in_ok-flat.ensures
