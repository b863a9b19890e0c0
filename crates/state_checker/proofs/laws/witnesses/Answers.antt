-- The law of witnesses.
use Rattle.state_checker.proofs.PublicLaws.{witnesses-test}
use Rattle.state_checker.proofs.laws.witnesses.Goals as goal

pub returns : goal.returns
returns c = record { test = witnesses-test }
