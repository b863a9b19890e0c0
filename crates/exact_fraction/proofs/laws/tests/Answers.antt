-- The laws of the tests.
use Rattle.exact_fraction.proofs.PublicLaws.{tests-less, tests-not_less, tests-same, tests-compares}
use Rattle.exact_fraction.proofs.PublicLaws.{tests-less_of_same, tests-same_of_same}
use Rattle.exact_fraction.proofs.PublicLaws.{tests-same_by_less, tests-is_zero, tests-above_zero}
use Rattle.exact_fraction.proofs.PublicLaws.{tests-below_zero, tests-equal, tests-unequal}
use Rattle.exact_fraction.proofs.PublicLaws.{tests-below, tests-at_most, tests-above}
use Rattle.exact_fraction.proofs.PublicLaws.{tests-at_least}
use Rattle.exact_fraction.proofs.laws.tests.Goals as goal

pub returns-clause-less : goal.returns-clause-less
returns-clause-less c = tests-less

pub returns-clause-not_less : goal.returns-clause-not_less
returns-clause-not_less c = tests-not_less

pub returns-clause-same : goal.returns-clause-same
returns-clause-same c = tests-same

pub returns-clause-compares : goal.returns-clause-compares
returns-clause-compares c = tests-compares

pub returns-clause-less_of_same : goal.returns-clause-less_of_same
returns-clause-less_of_same c = tests-less_of_same

pub returns-clause-same_of_same : goal.returns-clause-same_of_same
returns-clause-same_of_same c = tests-same_of_same

pub returns-clause-same_by_less : goal.returns-clause-same_by_less
returns-clause-same_by_less c = tests-same_by_less

pub returns-clause-is_zero : goal.returns-clause-is_zero
returns-clause-is_zero c = tests-is_zero

pub returns-clause-above_zero : goal.returns-clause-above_zero
returns-clause-above_zero c = tests-above_zero

pub returns-clause-below_zero : goal.returns-clause-below_zero
returns-clause-below_zero c = tests-below_zero

pub returns-clause-equal : goal.returns-clause-equal
returns-clause-equal c = tests-equal

pub returns-clause-unequal : goal.returns-clause-unequal
returns-clause-unequal c = tests-unequal

pub returns-clause-below : goal.returns-clause-below
returns-clause-below c = tests-below

pub returns-clause-at_most : goal.returns-clause-at_most
returns-clause-at_most c = tests-at_most

pub returns-clause-above : goal.returns-clause-above
returns-clause-above c = tests-above

pub returns-clause-at_least : goal.returns-clause-at_least
returns-clause-at_least c = tests-at_least
