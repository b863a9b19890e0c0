use Rattle.table_hulls.proofs.PublicLaws.{computed_values-curve, computed_values-series}
use Rattle.table_hulls.proofs.laws.computed_values.Goals as goal

pub returns-clause-curve : goal.returns-clause-curve
returns-clause-curve c = computed_values-curve

pub returns-clause-series : goal.returns-clause-series
returns-clause-series c = computed_values-series
