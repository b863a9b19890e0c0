-- The law of limits.
use Rattle.plain_questions.proofs.PublicLaws.{limits-decided}
use Rattle.plain_questions.proofs.laws.limits.Goals as goal

pub returns : goal.returns
returns c = record { decided = limits-decided }
