-- The laws of certificates.
use Rattle.verdict_meaning.proofs.PublicLaws.{certificates-refused}
use Rattle.verdict_meaning.proofs.PublicLaws.{certificates-no_state}
use Rattle.verdict_meaning.proofs.laws.certificates.Goals as goal

pub returns-clause-refused : goal.returns-clause-refused
returns-clause-refused c = certificates-refused

pub returns-clause-no_state : goal.returns-clause-no_state
returns-clause-no_state c = certificates-no_state
