-- The laws of common denominators.
use Rattle.exact_fraction.proofs.PublicLaws.{common_denominators-difference}
use Rattle.exact_fraction.proofs.PublicLaws.{common_denominators-sum}
use Rattle.exact_fraction.proofs.PublicLaws.{common_denominators-difference_fits}
use Rattle.exact_fraction.proofs.PublicLaws.{common_denominators-sum_fits}
use Rattle.exact_fraction.proofs.laws.common_denominators.Goals as goal

pub returns-clause-difference : goal.returns-clause-difference
returns-clause-difference c = common_denominators-difference

pub returns-clause-sum : goal.returns-clause-sum
returns-clause-sum c = common_denominators-sum

pub returns-clause-difference_fits : goal.returns-clause-difference_fits
returns-clause-difference_fits c = common_denominators-difference_fits

pub returns-clause-sum_fits : goal.returns-clause-sum_fits
returns-clause-sum_fits c = common_denominators-sum_fits
