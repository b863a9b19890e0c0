-- The laws of products and quotients.
use Rattle.exact_fraction.proofs.PublicLaws.{products-commutes, products-with_zero}
use Rattle.exact_fraction.proofs.PublicLaws.{products-with_one, products-of_same, products-at_most}
use Rattle.exact_fraction.proofs.PublicLaws.{products-below, products-turned_at_most}
use Rattle.exact_fraction.proofs.PublicLaws.{products-turned_below, products-quotient}
use Rattle.exact_fraction.proofs.PublicLaws.{products-quotient_at_most, products-quotient_turned}
use Rattle.exact_fraction.proofs.PublicLaws.{products-quotient_below}
use Rattle.exact_fraction.proofs.PublicLaws.{products-quotient_turned_below, products-by_greater}
use Rattle.exact_fraction.proofs.PublicLaws.{products-by_greater_turned, products-quotient_signs}
use Rattle.exact_fraction.proofs.laws.products.Goals as goal

pub returns-clause-commutes : goal.returns-clause-commutes
returns-clause-commutes c = products-commutes

pub returns-clause-with_zero : goal.returns-clause-with_zero
returns-clause-with_zero c = products-with_zero

pub returns-clause-with_one : goal.returns-clause-with_one
returns-clause-with_one c = products-with_one

pub returns-clause-of_same : goal.returns-clause-of_same
returns-clause-of_same c = products-of_same

pub returns-clause-at_most : goal.returns-clause-at_most
returns-clause-at_most c = products-at_most

pub returns-clause-below : goal.returns-clause-below
returns-clause-below c = products-below

pub returns-clause-turned_at_most : goal.returns-clause-turned_at_most
returns-clause-turned_at_most c = products-turned_at_most

pub returns-clause-turned_below : goal.returns-clause-turned_below
returns-clause-turned_below c = products-turned_below

pub returns-clause-quotient : goal.returns-clause-quotient
returns-clause-quotient c = products-quotient

pub returns-clause-quotient_at_most : goal.returns-clause-quotient_at_most
returns-clause-quotient_at_most c = products-quotient_at_most

pub returns-clause-quotient_turned : goal.returns-clause-quotient_turned
returns-clause-quotient_turned c = products-quotient_turned

pub returns-clause-quotient_below : goal.returns-clause-quotient_below
returns-clause-quotient_below c = products-quotient_below

pub returns-clause-quotient_turned_below : goal.returns-clause-quotient_turned_below
returns-clause-quotient_turned_below c = products-quotient_turned_below

pub returns-clause-by_greater : goal.returns-clause-by_greater
returns-clause-by_greater c = products-by_greater

pub returns-clause-by_greater_turned : goal.returns-clause-by_greater_turned
returns-clause-by_greater_turned c = products-by_greater_turned

pub returns-clause-quotient_signs : goal.returns-clause-quotient_signs
returns-clause-quotient_signs c = products-quotient_signs
