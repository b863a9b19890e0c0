use Rattle.std.proofs.Common.{refl}
use Rattle.exact_fraction.specs.Number.{whole, den}
use Rattle.exact_fraction.specs.Order.{less}
use Rattle.interval_sets.specs.Sets.{and_interval, normal_form, set_of, union_of, intersection_of, complement_of}
use Rattle.interval_sets.proofs.laws.examples.Goals as goal

pub returns-clause-apart : goal.returns-clause-apart
unfolding less whole den
returns-clause-apart c = refl

pub returns-clause-one : goal.returns-clause-one
unfolding less whole den
returns-clause-one c = refl

pub returns-clause-empty : goal.returns-clause-empty
unfolding less whole den
returns-clause-empty c = refl

pub returns-clause-touching : goal.returns-clause-touching
unfolding less whole den and_interval normal_form set_of union_of intersection_of complement_of
returns-clause-touching c = refl

pub returns-clause-joined : goal.returns-clause-joined
unfolding less whole den and_interval normal_form set_of union_of intersection_of complement_of
returns-clause-joined c = refl

pub returns-clause-others : goal.returns-clause-others
unfolding less whole den and_interval normal_form set_of union_of intersection_of complement_of
returns-clause-others c = refl

pub returns-clause-between : goal.returns-clause-between
unfolding less whole den and_interval normal_form set_of union_of intersection_of complement_of
returns-clause-between c = refl

pub returns-clause-nothing : goal.returns-clause-nothing
unfolding less whole den and_interval normal_form set_of union_of intersection_of complement_of
returns-clause-nothing c = refl
