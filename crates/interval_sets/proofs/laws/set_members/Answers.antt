use Rattle.interval_sets.proofs.PublicLaws.{set_members-normal_form, set_members-relation, set_members-union, set_members-intersection, set_members-complement}
use Rattle.interval_sets.proofs.laws.set_members.Goals as goal

pub returns-clause-normal_form : goal.returns-clause-normal_form
returns-clause-normal_form c = set_members-normal_form

pub returns-clause-relation : goal.returns-clause-relation
returns-clause-relation c = set_members-relation

pub returns-clause-union : goal.returns-clause-union
returns-clause-union c = set_members-union

pub returns-clause-intersection : goal.returns-clause-intersection
returns-clause-intersection c = set_members-intersection

pub returns-clause-complement : goal.returns-clause-complement
returns-clause-complement c = set_members-complement
