-- The laws of memories.
use Rattle.rule_meaning.proofs.PublicLaws.{memories-reading, memories-leaves, memories-as_many}
use Rattle.rule_meaning.proofs.PublicLaws.{memories-list}
use Rattle.rule_meaning.proofs.laws.memories.Goals as goal

pub returns-clause-reading : goal.returns-clause-reading
returns-clause-reading c = memories-reading

pub returns-clause-leaves : goal.returns-clause-leaves
returns-clause-leaves c = memories-leaves

pub returns-clause-as_many : goal.returns-clause-as_many
returns-clause-as_many c = memories-as_many

pub returns-clause-list : goal.returns-clause-list
returns-clause-list c = memories-list
