-- The laws of truths.
use Rattle.verdict_meaning.proofs.PublicLaws.{truths-sides}
use Rattle.verdict_meaning.proofs.PublicLaws.{truths-premise}
use Rattle.verdict_meaning.proofs.laws.truths.Goals as goal

pub returns-clause-sides : goal.returns-clause-sides
returns-clause-sides c = truths-sides

pub returns-clause-premise : goal.returns-clause-premise
returns-clause-premise c = truths-premise
