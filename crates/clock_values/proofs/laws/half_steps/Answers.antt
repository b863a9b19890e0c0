-- Half-step conditions.
use Rattle.clock_values.proofs.PublicLaws.{half_steps-number}
use Rattle.clock_values.proofs.PublicLaws.{half_steps-value}
use Rattle.clock_values.proofs.PublicLaws.{half_steps-fit}
use Rattle.clock_values.proofs.laws.half_steps.Goals as goal

pub returns-clause-number : goal.returns-clause-number
returns-clause-number c = half_steps-number

pub returns-clause-value : goal.returns-clause-value
returns-clause-value c = half_steps-value

pub returns-clause-fit : goal.returns-clause-fit
returns-clause-fit c = half_steps-fit
