-- The laws of ratios.
use Rattle.exact_fraction.proofs.PublicLaws.{lowest_terms-positive, lowest_terms-greatest}
use Rattle.exact_fraction.proofs.PublicLaws.{lowest_terms-lowest, lowest_terms-value}
use Rattle.exact_fraction.proofs.PublicLaws.{lowest_terms-no_greater, lowest_terms-divides}
use Rattle.exact_fraction.proofs.PublicLaws.{lowest_terms-fits, lowest_terms-overflows}
use Rattle.exact_fraction.proofs.PublicLaws.{lowest_terms-of_same, lowest_terms-unique}
use Rattle.exact_fraction.proofs.PublicLaws.{lowest_terms-itself, lowest_terms-of_whole}
use Rattle.exact_fraction.proofs.PublicLaws.{lowest_terms-of_sum, lowest_terms-of_product}
use Rattle.exact_fraction.proofs.PublicLaws.{lowest_terms-of_sign, lowest_terms-of_rounding}
use Rattle.exact_fraction.proofs.laws.lowest_terms.Goals as goal

pub returns-clause-positive : goal.returns-clause-positive
returns-clause-positive c = lowest_terms-positive

pub returns-clause-greatest : goal.returns-clause-greatest
returns-clause-greatest c = lowest_terms-greatest

pub returns-clause-lowest : goal.returns-clause-lowest
returns-clause-lowest c = lowest_terms-lowest

pub returns-clause-value : goal.returns-clause-value
returns-clause-value c = lowest_terms-value

pub returns-clause-no_greater : goal.returns-clause-no_greater
returns-clause-no_greater c = lowest_terms-no_greater

pub returns-clause-divides : goal.returns-clause-divides
returns-clause-divides c = lowest_terms-divides

pub returns-clause-fits : goal.returns-clause-fits
returns-clause-fits c = lowest_terms-fits

pub returns-clause-overflows : goal.returns-clause-overflows
returns-clause-overflows c = lowest_terms-overflows

pub returns-clause-of_same : goal.returns-clause-of_same
returns-clause-of_same c = lowest_terms-of_same

pub returns-clause-unique : goal.returns-clause-unique
returns-clause-unique c = lowest_terms-unique

pub returns-clause-itself : goal.returns-clause-itself
returns-clause-itself c = lowest_terms-itself

pub returns-clause-of_whole : goal.returns-clause-of_whole
returns-clause-of_whole c = lowest_terms-of_whole

pub returns-clause-of_sum : goal.returns-clause-of_sum
returns-clause-of_sum c = lowest_terms-of_sum

pub returns-clause-of_product : goal.returns-clause-of_product
returns-clause-of_product c = lowest_terms-of_product

pub returns-clause-of_sign : goal.returns-clause-of_sign
returns-clause-of_sign c = lowest_terms-of_sign

pub returns-clause-of_rounding : goal.returns-clause-of_rounding
returns-clause-of_rounding c = lowest_terms-of_rounding
