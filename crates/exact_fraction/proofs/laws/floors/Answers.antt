-- The laws of floors.
use Rattle.exact_fraction.proofs.PublicLaws.{floors-at_most, floors-above, floors-unique}
use Rattle.exact_fraction.proofs.laws.floors.Goals as goal

pub returns-clause-at_most : goal.returns-clause-at_most
returns-clause-at_most c = floors-at_most

pub returns-clause-above : goal.returns-clause-above
returns-clause-above c = floors-above

pub returns-clause-unique : goal.returns-clause-unique
returns-clause-unique c = floors-unique
