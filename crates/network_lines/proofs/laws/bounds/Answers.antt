use Rattle.network_lines.proofs.PublicLaws.{bounds-routing_step, bounds-links}
use Rattle.network_lines.proofs.laws.bounds.Goals as goal

pub returns : goal.returns
returns c = record { routing_step = bounds-routing_step; links = bounds-links }
