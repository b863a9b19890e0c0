-- The laws of hulls.
use Rattle.verdict_meaning.proofs.PublicLaws.{hulls-sum}
use Rattle.verdict_meaning.proofs.PublicLaws.{hulls-difference}
use Rattle.verdict_meaning.proofs.PublicLaws.{hulls-negation}
use Rattle.verdict_meaning.proofs.PublicLaws.{hulls-size}
use Rattle.verdict_meaning.proofs.PublicLaws.{hulls-sign}
use Rattle.verdict_meaning.proofs.PublicLaws.{hulls-step}
use Rattle.verdict_meaning.proofs.PublicLaws.{hulls-product}
use Rattle.verdict_meaning.proofs.PublicLaws.{hulls-quotient}
use Rattle.verdict_meaning.proofs.PublicLaws.{hulls-power}
use Rattle.verdict_meaning.proofs.laws.hulls.Goals as goal

pub returns-clause-sum : goal.returns-clause-sum
returns-clause-sum c = hulls-sum

pub returns-clause-difference : goal.returns-clause-difference
returns-clause-difference c = hulls-difference

pub returns-clause-negation : goal.returns-clause-negation
returns-clause-negation c = hulls-negation

pub returns-clause-size : goal.returns-clause-size
returns-clause-size c = hulls-size

pub returns-clause-sign : goal.returns-clause-sign
returns-clause-sign c = hulls-sign

pub returns-clause-step : goal.returns-clause-step
returns-clause-step c = hulls-step

pub returns-clause-product : goal.returns-clause-product
returns-clause-product c = hulls-product

pub returns-clause-quotient : goal.returns-clause-quotient
returns-clause-quotient c = hulls-quotient

pub returns-clause-power : goal.returns-clause-power
returns-clause-power c = hulls-power
