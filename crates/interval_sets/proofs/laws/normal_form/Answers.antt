-- The laws of normal form.
use Rattle.interval_sets.proofs.PublicLaws.{normal_form-unique, normal_form-not_empty, normal_form-apart}
use Rattle.interval_sets.proofs.laws.normal_form.Goals as goal

pub returns-clause-unique : goal.returns-clause-unique
returns-clause-unique c = normal_form-unique

pub returns-clause-not_empty : goal.returns-clause-not_empty
returns-clause-not_empty c = normal_form-not_empty

pub returns-clause-apart : goal.returns-clause-apart
returns-clause-apart c = normal_form-apart
