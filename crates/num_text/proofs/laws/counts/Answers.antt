-- Counts, read and written.
use Rattle.num_text.proofs.PublicLaws.{counts-back, counts-written, counts-below}
use Rattle.num_text.proofs.laws.counts.Goals as goal

pub returns-clause-back : goal.returns-clause-back
returns-clause-back c = counts-back

pub returns-clause-written : goal.returns-clause-written
returns-clause-written c = counts-written

pub returns-clause-below : goal.returns-clause-below
returns-clause-below c = counts-below
