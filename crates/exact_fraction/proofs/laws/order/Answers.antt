-- The laws of the order.
use Rattle.exact_fraction.proofs.PublicLaws.{order-reflexive, order-total, order-apart}
use Rattle.exact_fraction.proofs.PublicLaws.{order-antisymmetric, order-same_is_at_most}
use Rattle.exact_fraction.proofs.PublicLaws.{order-same_symmetric, order-same_transitive}
use Rattle.exact_fraction.proofs.PublicLaws.{order-below_is_at_most, order-transitive}
use Rattle.exact_fraction.proofs.PublicLaws.{order-below_transitive, order-below_at_most}
use Rattle.exact_fraction.proofs.PublicLaws.{order-at_most_below, order-lesser, order-greater}
use Rattle.exact_fraction.proofs.PublicLaws.{order-dense}
use Rattle.exact_fraction.proofs.laws.order.Goals as goal

pub returns-clause-reflexive : goal.returns-clause-reflexive
returns-clause-reflexive c = order-reflexive

pub returns-clause-total : goal.returns-clause-total
returns-clause-total c = order-total

pub returns-clause-apart : goal.returns-clause-apart
returns-clause-apart c = order-apart

pub returns-clause-antisymmetric : goal.returns-clause-antisymmetric
returns-clause-antisymmetric c = order-antisymmetric

pub returns-clause-same_is_at_most : goal.returns-clause-same_is_at_most
returns-clause-same_is_at_most c = order-same_is_at_most

pub returns-clause-same_symmetric : goal.returns-clause-same_symmetric
returns-clause-same_symmetric c = order-same_symmetric

pub returns-clause-same_transitive : goal.returns-clause-same_transitive
returns-clause-same_transitive c = order-same_transitive

pub returns-clause-below_is_at_most : goal.returns-clause-below_is_at_most
returns-clause-below_is_at_most c = order-below_is_at_most

pub returns-clause-transitive : goal.returns-clause-transitive
returns-clause-transitive c = order-transitive

pub returns-clause-below_transitive : goal.returns-clause-below_transitive
returns-clause-below_transitive c = order-below_transitive

pub returns-clause-below_at_most : goal.returns-clause-below_at_most
returns-clause-below_at_most c = order-below_at_most

pub returns-clause-at_most_below : goal.returns-clause-at_most_below
returns-clause-at_most_below c = order-at_most_below

pub returns-clause-lesser : goal.returns-clause-lesser
returns-clause-lesser c = order-lesser

pub returns-clause-greater : goal.returns-clause-greater
returns-clause-greater c = order-greater

pub returns-clause-dense : goal.returns-clause-dense
returns-clause-dense c = order-dense
