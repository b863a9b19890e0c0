use Rattle.table_plan.proofs.PublicLaws.{pieces-cut, pieces-below, pieces-above, pieces-most}
use Rattle.table_plan.proofs.laws.pieces.Goals as goal

pub returns : goal.returns
returns c = record { cut = pieces-cut; below = pieces-below; above = pieces-above; most = pieces-most }
