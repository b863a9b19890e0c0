-- The laws of rounding.
use Rattle.exact_fraction.proofs.PublicLaws.{rounding-nearest, rounding-multiple, rounding-of_ratio}
use Rattle.exact_fraction.proofs.PublicLaws.{rounding-divides, rounding-at_most}
use Rattle.exact_fraction.proofs.laws.rounding.Goals as goal

pub returns-clause-nearest : goal.returns-clause-nearest
returns-clause-nearest c = rounding-nearest

pub returns-clause-multiple : goal.returns-clause-multiple
returns-clause-multiple c = rounding-multiple

pub returns-clause-of_ratio : goal.returns-clause-of_ratio
returns-clause-of_ratio c = rounding-of_ratio

pub returns-clause-divides : goal.returns-clause-divides
returns-clause-divides c = rounding-divides

pub returns-clause-at_most : goal.returns-clause-at_most
returns-clause-at_most c = rounding-at_most
