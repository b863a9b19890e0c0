-- The laws of sums, differences and signs.
use Rattle.exact_fraction.proofs.PublicLaws.{sums-commutes, sums-associates, sums-with_zero}
use Rattle.exact_fraction.proofs.PublicLaws.{sums-with_difference, sums-as_sum, sums-of_same}
use Rattle.exact_fraction.proofs.PublicLaws.{sums-difference_of_same, sums-at_most, sums-below}
use Rattle.exact_fraction.proofs.PublicLaws.{sums-difference_at_most, sums-difference_below}
use Rattle.exact_fraction.proofs.PublicLaws.{sums-taken_at_most, sums-taken_below}
use Rattle.exact_fraction.proofs.PublicLaws.{sums-difference_sign, sums-sign_at_most}
use Rattle.exact_fraction.proofs.PublicLaws.{sums-sign_below, sums-sign_twice}
use Rattle.exact_fraction.proofs.laws.sums.Goals as goal

pub returns-clause-commutes : goal.returns-clause-commutes
returns-clause-commutes c = sums-commutes

pub returns-clause-associates : goal.returns-clause-associates
returns-clause-associates c = sums-associates

pub returns-clause-with_zero : goal.returns-clause-with_zero
returns-clause-with_zero c = sums-with_zero

pub returns-clause-with_difference : goal.returns-clause-with_difference
returns-clause-with_difference c = sums-with_difference

pub returns-clause-as_sum : goal.returns-clause-as_sum
returns-clause-as_sum c = sums-as_sum

pub returns-clause-of_same : goal.returns-clause-of_same
returns-clause-of_same c = sums-of_same

pub returns-clause-difference_of_same : goal.returns-clause-difference_of_same
returns-clause-difference_of_same c = sums-difference_of_same

pub returns-clause-at_most : goal.returns-clause-at_most
returns-clause-at_most c = sums-at_most

pub returns-clause-below : goal.returns-clause-below
returns-clause-below c = sums-below

pub returns-clause-difference_at_most : goal.returns-clause-difference_at_most
returns-clause-difference_at_most c = sums-difference_at_most

pub returns-clause-difference_below : goal.returns-clause-difference_below
returns-clause-difference_below c = sums-difference_below

pub returns-clause-taken_at_most : goal.returns-clause-taken_at_most
returns-clause-taken_at_most c = sums-taken_at_most

pub returns-clause-taken_below : goal.returns-clause-taken_below
returns-clause-taken_below c = sums-taken_below

pub returns-clause-difference_sign : goal.returns-clause-difference_sign
returns-clause-difference_sign c = sums-difference_sign

pub returns-clause-sign_at_most : goal.returns-clause-sign_at_most
returns-clause-sign_at_most c = sums-sign_at_most

pub returns-clause-sign_below : goal.returns-clause-sign_below
returns-clause-sign_below c = sums-sign_below

pub returns-clause-sign_twice : goal.returns-clause-sign_twice
returns-clause-sign_twice c = sums-sign_twice
