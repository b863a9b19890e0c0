use Rattle.byte_edge.proofs.PublicLaws.{known_end-at_slot}
use Rattle.byte_edge.proofs.laws.known_end.Goals as goal

pub returns : goal.returns
returns c = record { at_slot = known_end-at_slot }
