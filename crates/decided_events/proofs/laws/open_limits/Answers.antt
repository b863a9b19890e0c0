-- The law of limits that are not shown.
use Rattle.decided_events.proofs.PublicLaws.{open_limits-acted}
use Rattle.decided_events.proofs.laws.open_limits.Goals as goal

pub returns : goal.returns
returns c = record { acted = open_limits-acted }
