use Rattle.table_hulls.proofs.PublicLaws.{hulls-curve, hulls-series}
use Rattle.table_hulls.proofs.laws.hulls.Goals as goal

pub returns-clause-curve : goal.returns-clause-curve
returns-clause-curve c = hulls-curve

pub returns-clause-series : goal.returns-clause-series
returns-clause-series c = hulls-series
