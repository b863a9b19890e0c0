-- Tests over a run of seconds.
use Rattle.clock_values.proofs.PublicLaws.{runs_of_seconds-throughout}
use Rattle.clock_values.proofs.PublicLaws.{runs_of_seconds-nowhere}
use Rattle.clock_values.proofs.laws.runs_of_seconds.Goals as goal

pub returns-clause-throughout : goal.returns-clause-throughout
returns-clause-throughout c = runs_of_seconds-throughout

pub returns-clause-nowhere : goal.returns-clause-nowhere
returns-clause-nowhere c = runs_of_seconds-nowhere
