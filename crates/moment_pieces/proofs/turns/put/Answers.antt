use Rattle.moment_pieces.proofs.Gathers.{stands_inserted}
use Rattle.moment_pieces.proofs.turns.put.Goals as goal

pub returns-in-Ok : goal.returns-in-Ok
returns-in-Ok c = record {
  adds = record { is = λ m. rw c.in-Ok.ensures.keys (stands_inserted c.args.set.now.keys c.args.number m) };
}
