use Rattle.std.proofs.Common.{◌≡◌, ◌+◌, vec_len}
use Rattle.plain_reading.proofs.list.add_room.Given as goal

abbrev pub invariant-loop-k : goal.invariant-loop-k
invariant-loop-k l = vec_len l.pairs ≡ vec_len l.fn.pairs + l._k
