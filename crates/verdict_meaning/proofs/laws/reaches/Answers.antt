-- The laws of reaches.
use Rattle.verdict_meaning.proofs.PublicLaws.{reaches-key}
use Rattle.verdict_meaning.proofs.PublicLaws.{reaches-formula}
use Rattle.verdict_meaning.proofs.laws.reaches.Goals as goal

pub returns-clause-key : goal.returns-clause-key
returns-clause-key c = reaches-key

pub returns-clause-formula : goal.returns-clause-formula
returns-clause-formula c = reaches-formula
