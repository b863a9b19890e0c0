use Rattle.std.proofs.Common.{◌≡◌, ◌+◌, drop, vec_len}
use Rattle.plain_reading.specs.Room.{pair_room}
use Rattle.plain_reading.proofs.list.room_for_pairs.Given as goal

abbrev pub invariant-loop-rule : goal.invariant-loop-rule
invariant-loop-rule l =
    vec_len l.pairs + pair_room (drop l.rule-index l.rules.rules) ≡ pair_room l.rules.rules
