use Rattle.interval_sets.proofs.PublicLaws.{set_order-normal_form, set_order-relation, set_order-union, set_order-intersection, set_order-complement, set_order-same}
use Rattle.interval_sets.proofs.laws.set_order.Goals as goal

pub returns-clause-normal_form : goal.returns-clause-normal_form
returns-clause-normal_form c = set_order-normal_form

pub returns-clause-relation : goal.returns-clause-relation
returns-clause-relation c = set_order-relation

pub returns-clause-union : goal.returns-clause-union
returns-clause-union c = set_order-union

pub returns-clause-intersection : goal.returns-clause-intersection
returns-clause-intersection c = set_order-intersection

pub returns-clause-complement : goal.returns-clause-complement
returns-clause-complement c = set_order-complement

pub returns-clause-same : goal.returns-clause-same
returns-clause-same c = set_order-same
