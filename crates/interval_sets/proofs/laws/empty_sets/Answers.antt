use Rattle.interval_sets.proofs.PublicLaws.{empty_sets-normal, empty_sets-relation, empty_sets-union, empty_sets-union_left, empty_sets-intersection}
use Rattle.interval_sets.proofs.laws.empty_sets.Goals as goal

pub returns-clause-normal : goal.returns-clause-normal
returns-clause-normal c = empty_sets-normal

pub returns-clause-relation : goal.returns-clause-relation
returns-clause-relation c = empty_sets-relation

pub returns-clause-union : goal.returns-clause-union
returns-clause-union c = empty_sets-union

pub returns-clause-union_left : goal.returns-clause-union_left
returns-clause-union_left c = empty_sets-union_left

pub returns-clause-intersection : goal.returns-clause-intersection
returns-clause-intersection c = empty_sets-intersection
