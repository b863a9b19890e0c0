use Rattle.interval_sets.proofs.PublicLaws.{set_ends-normal_form, set_ends-relation, set_ends-union, set_ends-intersection, set_ends-complement}
use Rattle.interval_sets.proofs.laws.set_ends.Goals as goal

pub returns-clause-normal_form : goal.returns-clause-normal_form
returns-clause-normal_form c = set_ends-normal_form

pub returns-clause-relation : goal.returns-clause-relation
returns-clause-relation c = set_ends-relation

pub returns-clause-union : goal.returns-clause-union
returns-clause-union c = set_ends-union

pub returns-clause-intersection : goal.returns-clause-intersection
returns-clause-intersection c = set_ends-intersection

pub returns-clause-complement : goal.returns-clause-complement
returns-clause-complement c = set_ends-complement
