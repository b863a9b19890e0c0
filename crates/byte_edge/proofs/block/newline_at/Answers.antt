use Rattle.byte_edge.proofs.LineFeeds.{first_feed}
use Rattle.byte_edge.proofs.block.newline_at.Goals as goal

pub returns : goal.returns
returns c = first_feed _ _ c.memchr.ensures
