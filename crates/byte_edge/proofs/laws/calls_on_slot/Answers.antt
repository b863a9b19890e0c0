use Rattle.byte_edge.proofs.PublicLaws.{calls_on_slot-none, calls_on_slot-then}
use Rattle.byte_edge.proofs.laws.calls_on_slot.Goals as goal

pub returns-clause-none : goal.returns-clause-none
returns-clause-none g c = λ slot files. calls_on_slot-none slot

pub returns-clause-then : goal.returns-clause-then
returns-clause-then g c = λ slot fails was mid now first then. calls_on_slot-then slot fails first then
