use Rattle.rule_types.specs.Tables.{IsPointList}
use Rattle.curves_series.proofs.HeldTables.{adds}
use Rattle.curves_series.proofs.reading.add_curve_at.Goals as goal

pub returns : goal.returns
returns c = record {
  added =
      adds c.add.result (λ table. IsPointList table.points) _ _ _ _ c.in_ok-table.table _
      c.in_ok-table.ensures.value c.in_ok-table.ensures.points c.add.ensures.held
      c.add.ensures.refusal;
}
