use Rattle.std.proofs.Common.{refl}
use Rattle.std.specs.Fmt.{digits}
use Rattle.replay_text.proofs.examples.reports.Goals as goal

pub returns-clause-finished : goal.returns-clause-finished
unfolding digits
returns-clause-finished c = refl

pub returns-clause-fault : goal.returns-clause-fault
unfolding digits
returns-clause-fault c = refl

pub returns-clause-name : goal.returns-clause-name
unfolding digits
returns-clause-name c = refl

pub returns-clause-rule : goal.returns-clause-rule
unfolding digits
returns-clause-rule c = refl

pub returns-clause-past_budget : goal.returns-clause-past_budget
unfolding digits
returns-clause-past_budget c = refl
