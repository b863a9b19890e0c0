-- Steps in hours.
use Rattle.clock_values.proofs.PublicLaws.{steps-in_hours}
use Rattle.clock_values.proofs.PublicLaws.{steps-minutes}
use Rattle.clock_values.proofs.PublicLaws.{steps-routing}
use Rattle.clock_values.proofs.PublicLaws.{steps-of_rules}
use Rattle.clock_values.proofs.laws.steps.Goals as goal

pub returns-clause-in_hours : goal.returns-clause-in_hours
returns-clause-in_hours c = steps-in_hours

pub returns-clause-minutes : goal.returns-clause-minutes
returns-clause-minutes c = steps-minutes

pub returns-clause-routing : goal.returns-clause-routing
returns-clause-routing c = steps-routing

pub returns-clause-of_rules : goal.returns-clause-of_rules
returns-clause-of_rules c = steps-of_rules
