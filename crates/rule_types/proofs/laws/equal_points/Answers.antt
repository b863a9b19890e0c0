-- The `==` of points tells whether two are equal.
use Rattle.rule_types.proofs.PublicLaws.{equal_points-point}
use Rattle.rule_types.proofs.laws.equal_points.Goals as goal

pub returns : goal.returns
returns c = record { point = equal_points-point }
