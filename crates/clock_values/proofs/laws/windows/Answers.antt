-- Windows of seconds.
use Rattle.clock_values.proofs.PublicLaws.{windows-holds}
use Rattle.clock_values.proofs.PublicLaws.{windows-turns}
use Rattle.clock_values.proofs.laws.windows.Goals as goal

pub returns-clause-holds : goal.returns-clause-holds
returns-clause-holds c = windows-holds

pub returns-clause-turns : goal.returns-clause-turns
returns-clause-turns c = windows-turns
