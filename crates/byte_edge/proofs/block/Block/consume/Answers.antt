use Rattle.byte_edge.proofs.Lists.{slice_range-later}
use Rattle.byte_edge.proofs.block.Block.consume.Goals as goal

pub returns-clause-held : goal.returns-clause-held
returns-clause-held c = rw (← c.self.view_is) (slice_range-later c.self.inside.bytes.items c.self.inside.start c.args.count c.self.inside.end c.self.invariant.0 (rw (← c.self.view_is) at c.requires))
