-- The laws of premises.
use Rattle.rule_meaning.proofs.PublicLaws.{premises-in_a_row, premises-all_by_and}
use Rattle.rule_meaning.proofs.PublicLaws.{premises-all_by_or, premises-from_front, premises-walk}
use Rattle.rule_meaning.proofs.PublicLaws.{premises-by_place}
use Rattle.rule_meaning.proofs.laws.premises.Goals as goal

pub returns-clause-in_a_row : goal.returns-clause-in_a_row
returns-clause-in_a_row c = premises-in_a_row

pub returns-clause-all_by_and : goal.returns-clause-all_by_and
returns-clause-all_by_and c = premises-all_by_and

pub returns-clause-all_by_or : goal.returns-clause-all_by_or
returns-clause-all_by_or c = premises-all_by_or

pub returns-clause-from_front : goal.returns-clause-from_front
returns-clause-from_front c = premises-from_front

pub returns-clause-walk : goal.returns-clause-walk
returns-clause-walk c = premises-walk

pub returns-clause-by_place : goal.returns-clause-by_place
returns-clause-by_place c = premises-by_place
