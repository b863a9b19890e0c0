use Rattle.curves_series.proofs.PublicLaws.{points_of_tables-points}
use Rattle.curves_series.proofs.laws.points_of_tables.Goals as goal

pub returns : goal.returns
returns c = record { points = points_of_tables-points }
