use Rattle.trace_replay.proofs.PublicLaws.{following-first, following-after, following-next}
use Rattle.trace_replay.proofs.laws.following.Goals as goal

pub returns : goal.returns
returns c = record {
  first = following-first;
  after = following-after;
  next = following-next;
}
