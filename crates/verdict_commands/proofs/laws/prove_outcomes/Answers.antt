use Rattle.verdict_commands.proofs.PublicLaws.{prove_outcomes-asked, prove_outcomes-opened}
use Rattle.verdict_commands.proofs.laws.prove_outcomes.Goals as goal

pub returns-clause-opened : goal.returns-clause-opened
returns-clause-opened c = prove_outcomes-opened

pub returns-clause-asked : goal.returns-clause-asked
returns-clause-asked c = prove_outcomes-asked
