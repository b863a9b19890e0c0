-- The laws of targets.
use Rattle.rule_meaning.proofs.PublicLaws.{targets-ordered, targets-kept}
use Rattle.rule_meaning.proofs.laws.targets.Goals as goal

pub returns-clause-ordered : goal.returns-clause-ordered
returns-clause-ordered c = targets-ordered

pub returns-clause-kept : goal.returns-clause-kept
returns-clause-kept c = targets-kept
