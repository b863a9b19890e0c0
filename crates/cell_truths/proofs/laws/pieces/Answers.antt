use Rattle.cell_truths.proofs.PublicLaws.{pieces-limit, pieces-rising}
use Rattle.cell_truths.proofs.laws.pieces.Goals as goal

pub returns-clause-rising : goal.returns-clause-rising
returns-clause-rising c = pieces-rising

pub returns-clause-limit : goal.returns-clause-limit
returns-clause-limit c = pieces-limit
