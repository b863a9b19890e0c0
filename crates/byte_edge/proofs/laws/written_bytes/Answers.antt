use Rattle.byte_edge.proofs.PublicLaws.{written_bytes-nothing, written_bytes-then, written_bytes-same, written_bytes-prefix, written_bytes-prefix_after}
use Rattle.byte_edge.proofs.laws.written_bytes.Goals as goal

pub returns-clause-nothing : goal.returns-clause-nothing
returns-clause-nothing c = written_bytes-nothing

pub returns-clause-then : goal.returns-clause-then
returns-clause-then c = written_bytes-then

pub returns-clause-same : goal.returns-clause-same
returns-clause-same c = written_bytes-same

pub returns-clause-prefix : goal.returns-clause-prefix
returns-clause-prefix c = written_bytes-prefix

pub returns-clause-prefix_after : goal.returns-clause-prefix_after
returns-clause-prefix_after c = written_bytes-prefix_after
