-- The law of members.
use Rattle.rule_meaning.proofs.PublicLaws.{members-first, members-later, members-cases}
use Rattle.rule_meaning.proofs.laws.members.Goals as goal

pub returns-clause-first : goal.returns-clause-first
returns-clause-first c c' = members-first

pub returns-clause-later : goal.returns-clause-later
returns-clause-later c c' = members-later

pub returns-clause-cases : goal.returns-clause-cases
returns-clause-cases c c' = members-cases
