use Rattle.moment_pieces.proofs.Ranks.{next_within, next_past_end}
use Rattle.moment_pieces.proofs.lists.next_after.Goals as goal

pub returns-then-at-list : goal.returns-then-at-list
returns-then-at-list c = record { value = next_within c.args.list.now c.args.n c.rank-at.result c.requires.rising c.rank-at.ensures.value c.if-at-list.true }

pub returns-else-at-list : goal.returns-else-at-list
returns-else-at-list c = record { value = next_past_end c.args.list.now c.args.n c.rank-at.result c.requires.rising c.rank-at.ensures.value c.if-at-list.false }
