use Rattle.grid_samples.proofs.PublicLaws.{limits-tracked}
use Rattle.grid_samples.proofs.laws.limits.Goals as goal

pub returns : goal.returns
returns c = record { tracked = limits-tracked }
