use Rattle.command_outputs.proofs.PublicLaws.{stage_outcomes-opens, stage_outcomes-waits}
use Rattle.command_outputs.proofs.laws.stage_outcomes.Goals as goal

pub returns-clause-opens : goal.returns-clause-opens
returns-clause-opens g c = stage_outcomes-opens

pub returns-clause-waits : goal.returns-clause-waits
returns-clause-waits g c = stage_outcomes-waits
