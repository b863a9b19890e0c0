-- What the tests and the checked answers tell.
use Rattle.exact_fraction.proofs.PublicLaws.{tells-less, tells-same, tells-fitting, tells-checked}
use Rattle.exact_fraction.proofs.PublicLaws.{tells-quotient}
use Rattle.exact_fraction.proofs.laws.tells.Goals as goal

pub returns-clause-less : goal.returns-clause-less
returns-clause-less c = tells-less

pub returns-clause-same : goal.returns-clause-same
returns-clause-same c = tells-same

pub returns-clause-fitting : goal.returns-clause-fitting
returns-clause-fitting c = tells-fitting

pub returns-clause-checked : goal.returns-clause-checked
returns-clause-checked c = tells-checked

pub returns-clause-quotient : goal.returns-clause-quotient
returns-clause-quotient c = tells-quotient
