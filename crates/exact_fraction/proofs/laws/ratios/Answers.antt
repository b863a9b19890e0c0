-- The laws of the order of ratios.
use Rattle.exact_fraction.proofs.PublicLaws.{ratios-at_most, ratios-below, ratios-same}
use Rattle.exact_fraction.proofs.PublicLaws.{ratios-numerators_at_most, ratios-numerators_below}
use Rattle.exact_fraction.proofs.PublicLaws.{ratios-less_left, ratios-less_right}
use Rattle.exact_fraction.proofs.laws.ratios.Goals as goal

pub returns-clause-at_most : goal.returns-clause-at_most
returns-clause-at_most c = ratios-at_most

pub returns-clause-below : goal.returns-clause-below
returns-clause-below c = ratios-below

pub returns-clause-same : goal.returns-clause-same
returns-clause-same c = ratios-same

pub returns-clause-numerators_at_most : goal.returns-clause-numerators_at_most
returns-clause-numerators_at_most c = ratios-numerators_at_most

pub returns-clause-numerators_below : goal.returns-clause-numerators_below
returns-clause-numerators_below c = ratios-numerators_below

pub returns-clause-less_left : goal.returns-clause-less_left
returns-clause-less_left c = ratios-less_left

pub returns-clause-less_right : goal.returns-clause-less_right
returns-clause-less_right c = ratios-less_right
