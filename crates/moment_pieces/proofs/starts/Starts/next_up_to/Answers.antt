use Rattle.moment_pieces.specs.internal.Starts.{begins}
use Rattle.moment_pieces.proofs.Collected.{next_within_last, none_up_to_last}
use Rattle.moment_pieces.proofs.starts.Starts.next_up_to.Goals as goal

pub returns-then-last-next : goal.returns-then-last-next
returns-then-last-next c = record {
  value = none_up_to_last (begins c.args.self.now.daily.items c.args.self.now.singles.items) c.args.at c.args.last c.next_after-next.result c.next_after-next.ensures.value c.if-last-next.true;
}

pub returns-else-last-next : goal.returns-else-last-next
returns-else-last-next c = record {
  value = next_within_last (begins c.args.self.now.daily.items c.args.self.now.singles.items) c.args.at c.args.last c.next_after-next.result c.next_after-next.ensures.value c.if-last-next.false;
}
